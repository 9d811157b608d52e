use Rattle.std.proofs.Common.{◌≡◌, [], filter, take}
use Rattle.lvm_num.specs.Disks.{has}
use Rattle.lvm_recovery.specs.Plan.{usable_by}
use Rattle.lvm_recovery.proofs.dirty.first_usable.Given as goal

abbrev pub invariant-loop-k : goal.invariant-loop-k
invariant-loop-k l = record { none : filter (usable_by l.table (has l.disks)) (take l.k l.pps) ≡ [] }
