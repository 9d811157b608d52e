use Rattle.lvm_going.proofs.FramesLemmas.{turn_next}
use Rattle.lvm_going.proofs.laws.turns_keep_move.Goals as goal

pub returns : goal.returns
returns c = turn_next
