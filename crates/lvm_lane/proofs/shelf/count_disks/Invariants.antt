use Rattle.std.proofs.Common.{◌≤◌}
use Rattle.lvm_lane.proofs.shelf.count_disks.Given as goal

abbrev pub invariant-loop-disk : goal.invariant-loop-disk
invariant-loop-disk g l = (1 ≤ l.count) × (l.count ≤ 128)
