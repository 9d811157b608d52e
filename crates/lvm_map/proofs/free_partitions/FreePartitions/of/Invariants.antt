use Rattle.std.proofs.Common.{◌≡◌, [], map, take, Global}
use Rattle.std.specs.Prelude.{filter}
use Rattle.std.specs.declared.collections.VecDeque.{VecDeque}
use Rattle.lvm_num.specs.declared.place.Pp.{Pp}
use Rattle.lvm_num.specs.Descriptor.{partitions_used}
use Rattle.lvm_num.specs.Disks.{has}
use Rattle.lvm_map.specs.FirstFit.{free_of, may_take}
use Rattle.lvm_map.proofs.free_partitions.FreePartitions.of.Given as goal

abbrev pub invariant-loop-row : goal.invariant-loop-row
invariant-loop-row l =
    map (λ (free : VecDeque Pp Global). free.items) l.members.items
    ≡ map (free_of (partitions_used l.fn.d)) (filter (may_take (has l.usable) []) (take l.row-index l.row-items))
