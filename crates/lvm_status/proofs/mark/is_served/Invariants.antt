use Rattle.std.proofs.Common.{◌≡◌, false, take}
use Rattle.lvm_num.specs.Disks.{has}
use Rattle.lvm_status.specs.Marking.{is_served}
use Rattle.lvm_status.proofs.mark.is_served.Given as goal

abbrev pub invariant-loop-pp : goal.invariant-loop-pp
invariant-loop-pp l = is_served (has l.answering) l.table (take l.pp-index l.copies) ≡ false
