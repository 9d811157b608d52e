use Rattle.lvm_tie.proofs.RequestsLemmas.SubmitTies.{submit_ties as its}
use Rattle.lvm_tie.proofs.requests_laws.submit_ties.Goals as goal

pub returns : goal.returns
returns c = its
