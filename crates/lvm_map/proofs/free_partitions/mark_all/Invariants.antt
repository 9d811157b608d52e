use Rattle.std.proofs.Common.{take}
use Rattle.lvm_num.proofs.MarksLemmas.Marks.{Marked}
use Rattle.lvm_map.proofs.free_partitions.mark_all.Given as goal

abbrev pub invariant-loop-pp : goal.invariant-loop-pp
invariant-loop-pp l = Marked l.initial.marks l.marks (take l.pp-index l.map)
