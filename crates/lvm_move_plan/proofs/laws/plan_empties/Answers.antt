use Rattle.lvm_move_plan.proofs.LawsLemmas.{empty_disks}
use Rattle.lvm_move_plan.proofs.laws.plan_empties.Goals as goal

pub returns : goal.returns
returns c = empty_disks
