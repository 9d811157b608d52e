use Rattle.std.proofs.Common.{◌≡◌, ℕ, ◌-◌, ◌/◌, ◌<◌, false, get_or}
use Rattle.std.specs.Prelude.{nat_le}
use Rattle.lvm_num.specs.Geometry.{data_start, partition_blocks}
use Rattle.lvm_group.specs.NewGroup.{sizes_in_order}
use Rattle.lvm_group.proofs.checks.least_size.Given as goal

abbrev pub invariant-loop-mib : goal.invariant-loop-mib
invariant-loop-mib l = (k : ℕ) → k < l.mib-index → nat_le ((l.sectors - data_start) / partition_blocks (get_or sizes_in_order k 0)) 1016 ≡ false
