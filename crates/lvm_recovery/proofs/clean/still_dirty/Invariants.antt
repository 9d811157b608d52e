use Rattle.std.proofs.Common.{◌≡◌, take, filter}
use Rattle.lvm_num.specs.Disks.{has}
use Rattle.lvm_recovery.specs.Clean.{is_still_dirty}
use Rattle.lvm_recovery.proofs.clean.still_dirty.Given as goal

abbrev pub invariant-loop-number : goal.invariant-loop-number
invariant-loop-number l = l.numbers.items ≡ filter (is_still_dirty l.group l.table (has l.disks)) (take l.number-index l.dirty)
