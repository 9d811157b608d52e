use Rattle.lvm_disk.specs.Steps.{ChangedAtMost}
use Rattle.lvm_lane.proofs.image.get.Given as goal

abbrev pub invariant-loop-k : goal.invariant-loop-k
invariant-loop-k g l = ChangedAtMost l.count l.initial.buf l.buf
