use Rattle.lvm_tie.proofs.RequestsLemmas.AdmitTies.{admit_ties as its}
use Rattle.lvm_tie.proofs.requests_laws.admit_ties.Goals as goal

pub returns : goal.returns
returns c = its
