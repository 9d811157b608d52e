use Rattle.lvm_volumes.proofs.EvenLemmas.Off.{fewer_are_even as lemma_of}
use Rattle.lvm_volumes.proofs.even_laws.fewer_are_even.Goals as goal

pub returns : goal.returns
returns c = lemma_of
