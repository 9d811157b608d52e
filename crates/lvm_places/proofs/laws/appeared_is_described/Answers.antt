use Rattle.lvm_places.proofs.DescribedLemmas.{appeared_is_described as lemma_of}
use Rattle.lvm_places.proofs.laws.appeared_is_described.Goals as goal

pub returns : goal.returns
returns c = lemma_of
