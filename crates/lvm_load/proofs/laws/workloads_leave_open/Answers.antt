use Rattle.lvm_load.proofs.LeavingLemmas.{workloads_leave_open}
use Rattle.lvm_load.proofs.laws.workloads_leave_open.Goals as goal

pub returns : goal.returns
returns c = workloads_leave_open
