use Rattle.lvm_tie.proofs.RequestsLemmas.PinTies.{pin_ties as its}
use Rattle.lvm_tie.proofs.requests_laws.pin_ties.Goals as goal

pub returns : goal.returns
returns c = its
