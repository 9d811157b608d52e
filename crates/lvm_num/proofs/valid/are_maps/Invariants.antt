use Rattle.std.proofs.Common.{take}
use Rattle.lvm_num.specs.Descriptor.{partitions_in}
use Rattle.lvm_num.specs.Marks.{AreCounted}
use Rattle.lvm_num.proofs.MarksLemmas.Marks.{Marked}
use Rattle.lvm_num.proofs.valid.are_maps.Given as goal

abbrev pub invariant-loop-row : goal.invariant-loop-row
invariant-loop-row l =
    AreCounted l.counts (take l.row-index l.lvs) × Marked l.initial.marks l.marks (partitions_in (take l.row-index l.lvs))
