use Rattle.std.proofs.Common.{take}
use Rattle.lvm_num.specs.Disks.{has}
use Rattle.lvm_status.specs.Marking.{IsLeftIn, MarksLost}
use Rattle.lvm_status.proofs.mark.mark_volumes.Given as goal

abbrev pub invariant-loop-volume : goal.invariant-loop-volume
invariant-loop-volume l = MarksLost (has l.answering) (IsLeftIn (has l.answering) l.initial.table (take l.volume-index l.volumes)) l.initial.table l.table
