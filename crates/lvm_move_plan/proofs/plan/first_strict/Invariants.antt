use Rattle.std.proofs.Common.{◌≡◌, take}
use Rattle.std.specs.Prelude.{None, find}
use Rattle.lvm_move_plan.specs.Planned.{stands_beside}
use Rattle.lvm_move_plan.proofs.plan.first_strict.Given as goal

abbrev pub invariant-loop-copy : goal.invariant-loop-copy
invariant-loop-copy l = find (stands_beside l.d l.disk) (take l.copy-index l.copies) ≡ None
