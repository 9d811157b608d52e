use Rattle.std.proofs.Common.{◌≡◌, take, flat_map}
use Rattle.lvm_move_plan.specs.Standing.{standing_of, listed}
use Rattle.lvm_move_plan.proofs.standing.standing_among.Given as goal

abbrev pub invariant-loop-row : goal.invariant-loop-row
invariant-loop-row l = l.copies.items ≡ flat_map (standing_of l.lv (listed l.disks)) (take l.row-index l.row-items)
