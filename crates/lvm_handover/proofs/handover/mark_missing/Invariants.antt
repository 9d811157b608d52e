use Rattle.std.proofs.Common.{take}
use Rattle.lvm_handover.specs.Serving.{MarksMissing}
use Rattle.lvm_handover.proofs.handover.mark_missing.Given as goal

abbrev pub invariant-loop-member : goal.invariant-loop-member
invariant-loop-member l = MarksMissing (take l.member-index l.group.pvs) l.now l.initial.table l.table
