use Rattle.std.proofs.Common.{◌≡◌, false}
use Rattle.lvm_num.specs.Disks.{has}
use Rattle.lvm_recovery.specs.Clean.{lacks_usable}
use Rattle.lvm_recovery.proofs.clean.lacks_usable.Given as goal

abbrev pub invariant-loop-lp : goal.invariant-loop-lp
invariant-loop-lp l = record { none : lacks_usable l.table (has l.disks) l.row l.lp ≡ false }
