use Rattle.std.proofs.Common.{◌≡◌, false, take}
use Rattle.lvm_num.specs.Disks.{has}
use Rattle.lvm_recovery.specs.Clean.{any_still_dirty}
use Rattle.lvm_recovery.proofs.clean.any_still_dirty.Given as goal

abbrev pub invariant-loop-row : goal.invariant-loop-row
invariant-loop-row l = record { none : any_still_dirty l.table (has l.disks) l.number (take l.row-index l.rows) ≡ false }
