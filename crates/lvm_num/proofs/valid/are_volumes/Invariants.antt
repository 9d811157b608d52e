use Rattle.std.proofs.Common.{take}
use Rattle.lvm_num.specs.Descriptor.{AreVolumes}
use Rattle.lvm_num.proofs.valid.are_volumes.Given as goal

abbrev pub invariant-loop-k : goal.invariant-loop-k
invariant-loop-k l = AreVolumes l.big (take l.k l.lvs)
