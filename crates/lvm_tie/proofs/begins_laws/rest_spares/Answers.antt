use Rattle.lvm_tie.proofs.BeginsLemmas.Resting.{rest_spares as its}
use Rattle.lvm_tie.proofs.begins_laws.rest_spares.Goals as goal

pub returns : goal.returns
returns c = its
