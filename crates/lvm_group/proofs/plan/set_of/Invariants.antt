use Rattle.std.proofs.Common.{◌≡◌, ℕ, take}
use Rattle.lvm_num.specs.Disks.{has}
use Rattle.lvm_group.specs.NewGroup.{among}
use Rattle.lvm_group.proofs.plan.set_of.Given as goal

abbrev pub invariant-loop-disk : goal.invariant-loop-disk
invariant-loop-disk l = (d : ℕ) → has l.set d ≡ among (take l.disk-index l.disks) d
