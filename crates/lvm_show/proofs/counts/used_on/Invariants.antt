use Rattle.std.proofs.Common.{◌≡◌, take}
use Rattle.std.specs.Prelude.{◌==◌, count_by}
use Rattle.lvm_num.specs.declared.place.Pp.{Pp}
use Rattle.lvm_num.specs.Descriptor.{partitions_in}
use Rattle.lvm_show.proofs.counts.used_on.Given as goal

abbrev pub invariant-loop-row : goal.invariant-loop-row
invariant-loop-row l = l.used ≡ count_by (λ (pp : Pp). pp.disk == l.disk) (partitions_in (take l.row-index l.lvs))
