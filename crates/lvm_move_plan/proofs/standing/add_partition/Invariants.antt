use Rattle.std.proofs.Common.{◌≡◌, ◌++◌, flat_map}
use Rattle.std.specs.List.{range_with_len}
use Rattle.lvm_move_plan.specs.Standing.{standing_at, listed}
use Rattle.lvm_move_plan.proofs.standing.add_partition.Given as goal

abbrev pub invariant-loop-place : goal.invariant-loop-place
invariant-loop-place l = l.copies.items ≡ l.initial.copies.items ++ flat_map (standing_at (listed l.disks) l.row l.lp) (range_with_len 0 l.place)
