use Rattle.lvm_quiesce.proofs.LawsLemmas.Behind.{ends_stay_behind}
use Rattle.lvm_quiesce.proofs.LawsLemmas.Ending.{ends_leave_no_more, ends_stay_kept, ends_go_on, ends_stay_one}
use Rattle.lvm_quiesce.proofs.laws.ends_leave_no_more.Goals as goal

pub returns : goal.returns
returns c = record { fewer = ends_leave_no_more; kept = ends_stay_kept; keeps = ends_go_on; behind = ends_stay_behind; one = ends_stay_one }
