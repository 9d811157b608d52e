use Rattle.std.proofs.Common.{◌≡◌, [], length, take, drop}
use Rattle.lvm_num.specs.Descriptor.{partitions_in}
use Rattle.lvm_num.specs.DescriptorBytes.{maps_at}
use Rattle.lvm_vgda.specs.passed.Fields.{rest_of}
use Rattle.lvm_vgda.specs.Used.{Uses}
use Rattle.lvm_vgda.proofs.DescriptorBytesLemmas.MapLoops.{with_front}
use Rattle.lvm_vgda.proofs.maps.maps_at.Given as goal

abbrev pub invariant-loop-k : goal.invariant-loop-k
invariant-loop-k l = record {
  size : length l.rows.items ≡ length l.fn.rows.items;
  left : drop l.k l.rows.items ≡ drop l.k l.fn.rows.items;
  used : Uses l.used (partitions_in (take l.k l.rows.items));
  read : with_front (take l.k l.rows.items) (maps_at l.members (partitions_in (take l.k l.rows.items)) (drop l.k l.fn.rows.items) (rest_of l.rest)) ≡ maps_at l.members [] l.fn.rows.items (rest_of l.fn.unread);
}
