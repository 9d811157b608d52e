use Rattle.std.proofs.Common.{take}
use Rattle.std.specs.Prelude.{IsFalse}
use Rattle.lvm_num.specs.Disks.{has}
use Rattle.lvm_num.specs.Among.{IsOneOf}
use Rattle.lvm_status.specs.Marking.{MarksLost}
use Rattle.lvm_status.proofs.mark.mark_copies.Given as goal

abbrev pub invariant-loop-pp : goal.invariant-loop-pp
invariant-loop-pp l = MarksLost (has l.answering) (λ p. IsOneOf (take l.pp-index l.copies) p × IsFalse (has l.answering p.disk)) l.initial.table l.table
