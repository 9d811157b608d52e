use Rattle.lvm_memory.proofs.TicketsLemmas.{PassedSoFar}
use Rattle.lvm_memory.proofs.queue.pass_over.Given as goal

abbrev pub invariant-loop-flying : goal.invariant-loop-flying
invariant-loop-flying l = PassedSoFar l.initial.flights l.flights l.flying-index
