use Rattle.lvm_tie.proofs.CallsLemmas.OpenMoveTies.{open_move_ties as its}
use Rattle.lvm_tie.proofs.calls_laws.open_move_ties.Goals as goal

pub returns : goal.returns
returns c = its
