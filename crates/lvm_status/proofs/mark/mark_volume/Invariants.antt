use Rattle.lvm_num.specs.Disks.{has}
use Rattle.lvm_status.specs.Marking.{IsLeftBelow, MarksLost}
use Rattle.lvm_status.proofs.mark.mark_volume.Given as goal

abbrev pub invariant-loop-lp : goal.invariant-loop-lp
invariant-loop-lp l = MarksLost (has l.answering) (IsLeftBelow (has l.answering) l.initial.table l.volume l.lp) l.initial.table l.table
