use Rattle.lvm_tie.proofs.BeginsLemmas.Beginning.{begins_good as its}
use Rattle.lvm_tie.proofs.begins_laws.begins_good.Goals as goal

pub returns : goal.returns
returns c = its
