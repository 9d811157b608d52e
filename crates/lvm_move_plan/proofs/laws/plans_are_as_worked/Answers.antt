use Rattle.std.proofs.Common.{refl}
use Rattle.lvm_move_plan.proofs.laws.plans_are_as_worked.Goals as goal

pub returns : goal.returns
returns c = record { moves = refl; fine = refl; moved = refl; beside = refl; small = refl; other = refl }
