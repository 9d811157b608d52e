use Rattle.std.proofs.Common.{◌≡◌, ◌++◌, ◌-◌, ◌≤◌, length}
use Rattle.lvm_num.specs.Descriptor.{partitions_used}
use Rattle.lvm_num.specs.Disks.{has}
use Rattle.lvm_map.specs.FirstFit.{IsFirstFit}
use Rattle.lvm_map.specs.FreePartitions.{free_partitions}
use Rattle.lvm_map.proofs.fit.fit.Given as goal

abbrev pub invariant-loop-room : goal.invariant-loop-room
invariant-loop-room l = record {
  within : length l.map.items ≤ l.size;
  fits : IsFirstFit l.d (has l.fn.usable) (record { lps = l.lps; copies = l.copies; kept = l.kept; old = l.old }) l.map.items;
  room : l.room ≡ free_partitions l.d (has l.fn.usable) (partitions_used l.d ++ l.map.items);
}

abbrev pub decreases-loop-room : goal.decreases-loop-room
decreases-loop-room l = l.size - length l.map.items
