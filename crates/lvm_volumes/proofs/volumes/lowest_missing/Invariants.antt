use Rattle.std.proofs.Common.{◌<◌, ℕ}
use Rattle.std.specs.Prelude.{IsTrue, IsFalse}
use Rattle.lvm_num.specs.Status.{calls_missing}
use Rattle.lvm_map.specs.FirstFit.{has_partition_on}
use Rattle.lvm_volumes.proofs.volumes.lowest_missing.Given as goal

abbrev pub invariant-loop-disk : goal.invariant-loop-disk
invariant-loop-disk l = (d : ℕ) → d < l.disk → IsTrue (has_partition_on l.map d) → IsFalse (calls_missing l.table d)
