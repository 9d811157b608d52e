use Rattle.lvm_going_laws.proofs.MovingLemmas.{going_moves_on, moves_find_theirs}
use Rattle.lvm_going_laws.proofs.laws.going_moves_on.Goals as goal

pub returns : goal.returns
returns c = record { moves = going_moves_on; finds = moves_find_theirs }
