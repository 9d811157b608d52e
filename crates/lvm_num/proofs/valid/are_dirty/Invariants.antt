use Rattle.std.proofs.Common.{take}
use Rattle.lvm_num.specs.Status.{AreDirty}
use Rattle.lvm_num.proofs.valid.are_dirty.Given as goal

abbrev pub invariant-loop-k : goal.invariant-loop-k
invariant-loop-k l = AreDirty (take l.k l.numbers)
