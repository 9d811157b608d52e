use Rattle.lvm_move_tie.proofs.GoingLemmas.{move_ties as its}
use Rattle.lvm_move_tie.proofs.laws.move_ties.Goals as goal

pub returns : goal.returns
returns c = its
