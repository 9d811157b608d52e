use Rattle.std.proofs.Common.{◌≡◌, ◌++◌, flat_map}
use Rattle.std.specs.List.{range_with_len}
use Rattle.lvm_move_plan.specs.Standing.{standing_with, listed}
use Rattle.lvm_move_plan.proofs.standing.add_volume.Given as goal

abbrev pub invariant-loop-lp : goal.invariant-loop-lp
invariant-loop-lp l = l.copies.items ≡ l.initial.copies.items ++ flat_map (standing_with (listed l.disks) l.row) (range_with_len 0 l.lp)
