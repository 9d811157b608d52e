use Rattle.lvm_move_plan.proofs.ListedLemmas.{standing_in_order, standing_listed}
use Rattle.lvm_move_plan.proofs.laws.standing_are_listed.Goals as goal

pub returns : goal.returns
returns c = record { listed = standing_listed; rise = standing_in_order }
