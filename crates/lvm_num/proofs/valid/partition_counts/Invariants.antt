use Rattle.std.proofs.Common.{◌≡◌, ◌≤◌, length, take}
use Rattle.std.specs.Prelude.{All}
use Rattle.lvm_num.specs.Descriptor.{AreMembers}
use Rattle.lvm_num.specs.Marks.{AreCounts}
use Rattle.lvm_num.proofs.valid.partition_counts.Given as goal

abbrev pub invariant-loop-row : goal.invariant-loop-row
invariant-loop-row l =
    AreMembers (take l.row-index l.pvs) × AreCounts (take l.row-index l.pvs) l.counts × All (λ count. count ≤ 1016) l.counts × (length l.counts ≡ 128)
