use Rattle.lvm_move_keeps.proofs.MovedLemmas.{moved_has_moved as lemma_of}
use Rattle.lvm_move_keeps.proofs.StandsLemmas.{move_has_moved}
use Rattle.lvm_move_keeps.proofs.laws.moved_has_moved.Goals as goal

pub returns : goal.returns
returns c = record { any = lemma_of; destination = move_has_moved }
