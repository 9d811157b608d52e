use Rattle.std.proofs.Common.{◌≡◌, take}
use Rattle.std.specs.Prelude.{count_by}
use Rattle.lvm_num.specs.Descriptor.{partitions_in}
use Rattle.lvm_num.specs.Status.{calls_stale}
use Rattle.lvm_show.proofs.counts.all_stale.Given as goal

abbrev pub invariant-loop-row : goal.invariant-loop-row
invariant-loop-row l = l.stale ≡ count_by (calls_stale l.t) (partitions_in (take l.row-index l.lvs))
