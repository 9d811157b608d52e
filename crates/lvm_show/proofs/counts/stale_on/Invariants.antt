use Rattle.std.proofs.Common.{◌≡◌, take}
use Rattle.std.specs.Prelude.{◌==◌, ◌&&◌, count_by}
use Rattle.lvm_num.specs.declared.place.Pp.{Pp}
use Rattle.lvm_num.specs.Descriptor.{partitions_in}
use Rattle.lvm_num.specs.Status.{calls_stale}
use Rattle.lvm_show.proofs.counts.stale_on.Given as goal

abbrev pub invariant-loop-row : goal.invariant-loop-row
invariant-loop-row l = l.stale ≡ count_by (λ (pp : Pp). pp.disk == l.disk && calls_stale l.t pp) (partitions_in (take l.row-index l.lvs))
