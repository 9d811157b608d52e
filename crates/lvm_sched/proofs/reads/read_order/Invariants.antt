use Rattle.std.proofs.Common.{◌≡◌, ◌∷◌, take}
use Rattle.lvm_sched.specs.Reads.{others}
use Rattle.lvm_sched.proofs.reads.read_order.Given as goal

abbrev pub invariant-loop-copy : goal.invariant-loop-copy
invariant-loop-copy l = l.order.items ≡ l.first ∷ others (take l.copy-index l.usable) l.first
