use Rattle.lvm_move_tie.proofs.MovedLemmas.{moved_moves_in as its}
use Rattle.lvm_move_tie.proofs.laws.moved_moves_in.Goals as goal

pub returns : goal.returns
returns c = its
