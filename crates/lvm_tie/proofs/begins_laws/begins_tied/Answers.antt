use Rattle.lvm_tie.proofs.BeginsLemmas.Beginning.{begins_tied as its}
use Rattle.lvm_tie.proofs.begins_laws.begins_tied.Goals as goal

pub returns : goal.returns
returns c = its
