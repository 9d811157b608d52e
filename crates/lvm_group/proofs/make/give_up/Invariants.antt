use Rattle.std.proofs.Common.{◌≡◌, take}
use Rattle.lvm_group.specs.NewGroup.{given_up}
use Rattle.lvm_group.proofs.make.give_up.Given as goal

abbrev pub invariant-loop-disk : goal.invariant-loop-disk
invariant-loop-disk l = l.history ≡ given_up l.initial.history (take l.disk-index l.disks)
