use Rattle.std.proofs.Common.{take}
use Rattle.lvm_handover.specs.Serving.{MarksAdded}
use Rattle.lvm_handover.proofs.handover.mark_added.Given as goal

abbrev pub invariant-loop-pp : goal.invariant-loop-pp
invariant-loop-pp l = MarksAdded (take l.pp-index l.added) l.initial.table l.table
