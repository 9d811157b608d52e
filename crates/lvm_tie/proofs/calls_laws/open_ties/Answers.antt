use Rattle.lvm_tie.proofs.CallsLemmas.OpenTies.{open_ties as its}
use Rattle.lvm_tie.proofs.calls_laws.open_ties.Goals as goal

pub returns : goal.returns
returns c = its
