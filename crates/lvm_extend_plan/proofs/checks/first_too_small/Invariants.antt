use Rattle.std.proofs.Common.{◌≡◌, ℕ, ◌<◌, false, get_or}
use Rattle.std.specs.Prelude.{◌==◌}
use Rattle.lvm_num.specs.Geometry.{partition_count}
use Rattle.lvm_group.specs.NewGroup.{sectors_on}
use Rattle.lvm_extend_plan.proofs.checks.first_too_small.Given as goal

abbrev pub invariant-loop-disk : goal.invariant-loop-disk
invariant-loop-disk g l = (k : ℕ) → k < l.disk-index → partition_count (sectors_on (g.S.Shelf.device l.driver.0).sizes (get_or l.disks k 0)) l.mib == 0 ≡ false
