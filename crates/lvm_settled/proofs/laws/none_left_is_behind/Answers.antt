use Rattle.lvm_settled.proofs.SettledLemmas.{none_left_is_behind as lemma_of}
use Rattle.lvm_settled.proofs.laws.none_left_is_behind.Goals as goal

pub returns : goal.returns
returns c = lemma_of
