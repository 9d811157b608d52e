use Rattle.std.proofs.Common.{take}
use Rattle.lvm_num.specs.Descriptor.{partitions_in}
use Rattle.lvm_num.proofs.MarksLemmas.Marks.{Marked}
use Rattle.lvm_map.proofs.free_partitions.used_marks.Given as goal

abbrev pub invariant-loop-row : goal.invariant-loop-row
invariant-loop-row l = Marked l.initial.marks l.marks (partitions_in (take l.row-index l.row-items))
