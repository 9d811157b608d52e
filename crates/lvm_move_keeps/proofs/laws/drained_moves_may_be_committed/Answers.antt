use Rattle.lvm_move_keeps.proofs.DrainedLemmas.{done_may_commit, drained_is_done}
use Rattle.lvm_move_keeps.proofs.laws.drained_moves_may_be_committed.Goals as goal

pub returns : goal.returns
returns c = record { done = drained_is_done; may = done_may_commit }
