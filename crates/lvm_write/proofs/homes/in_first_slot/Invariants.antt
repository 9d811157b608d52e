use Rattle.lvm_num.specs.Disks.{has}
use Rattle.lvm_write.specs.Homes.{in_first_slot}
use Rattle.lvm_quorum.proofs.Passing.{PassBelow}
use Rattle.lvm_write.proofs.homes.in_first_slot.Given as goal

abbrev pub invariant-loop-row : goal.invariant-loop-row
invariant-loop-row l = PassBelow (in_first_slot l.kind l.survey) l.row-index (has l.disks)
