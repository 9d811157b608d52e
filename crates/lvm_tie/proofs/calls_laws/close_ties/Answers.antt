use Rattle.lvm_tie.proofs.CallsLemmas.CloseTies.{close_ties as its}
use Rattle.lvm_tie.proofs.calls_laws.close_ties.Goals as goal

pub returns : goal.returns
returns c = its
