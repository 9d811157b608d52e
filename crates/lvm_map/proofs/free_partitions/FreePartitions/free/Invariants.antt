use Rattle.std.proofs.Common.{◌≡◌, ◌*◌, ◌≤◌, length, take, Global}
use Rattle.std.specs.Prelude.{sum_by}
use Rattle.std.specs.declared.collections.VecDeque.{VecDeque}
use Rattle.lvm_num.specs.declared.place.Pp.{Pp}
use Rattle.lvm_map.proofs.free_partitions.FreePartitions.free.Given as goal

abbrev pub invariant-loop-member : goal.invariant-loop-member
invariant-loop-member l = record {
  is : l.free ≡ sum_by (λ (member : VecDeque Pp Global). length member.items) (take l.member-index l.member-items);
  most : l.free ≤ 1016 * l.member-index;
}
