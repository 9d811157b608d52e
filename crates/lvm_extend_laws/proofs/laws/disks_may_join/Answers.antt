use Rattle.lvm_extend_laws.proofs.ExamplesLemmas.{seconds_join}
use Rattle.lvm_extend_laws.proofs.laws.disks_may_join.Goals as goal

pub returns : goal.returns
returns c = seconds_join
