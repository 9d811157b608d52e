use Rattle.lvm_memory.proofs.TicketsLemmas.{TakenBelow, from_on}
use Rattle.lvm_memory.proofs.queue.later_ticket.Given as goal

abbrev pub invariant-loop-ticket : goal.invariant-loop-ticket
invariant-loop-ticket l = TakenBelow l.flights l.ticket

abbrev pub decreases-loop-ticket : goal.decreases-loop-ticket
decreases-loop-ticket l = from_on l.ticket l.flights
