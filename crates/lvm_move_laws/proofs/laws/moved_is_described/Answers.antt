use Rattle.lvm_move_laws.proofs.MovingLemmas.{moved_is_described as lemma_of}
use Rattle.lvm_move_laws.proofs.laws.moved_is_described.Goals as goal

pub returns : goal.returns
returns c = lemma_of
