use Rattle.std.proofs.Common.{◌≡◌, take}
use Rattle.lvm_move_plan.specs.Planned.{moves_to}
use Rattle.lvm_move_plan.proofs.plan.moves_to.Given as goal

abbrev pub invariant-loop-place : goal.invariant-loop-place
invariant-loop-place l = l.moves.items ≡ moves_to (take l.place l.copies) (take l.place l.free)
