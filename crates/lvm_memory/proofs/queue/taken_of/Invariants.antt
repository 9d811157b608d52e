use Rattle.std.proofs.Common.{take}
use Rattle.lvm_memory.specs.Tickets.{AreBitsOf}
use Rattle.lvm_memory.proofs.queue.taken_of.Given as goal

abbrev pub invariant-loop-flying : goal.invariant-loop-flying
invariant-loop-flying l = AreBitsOf (take l.flying-index l.flights) l.taken
