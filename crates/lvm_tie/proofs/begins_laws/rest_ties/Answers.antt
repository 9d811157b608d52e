use Rattle.lvm_tie.proofs.BeginsLemmas.Resting.{rest_ties as its}
use Rattle.lvm_tie.proofs.begins_laws.rest_ties.Goals as goal

pub returns : goal.returns
returns c = its
