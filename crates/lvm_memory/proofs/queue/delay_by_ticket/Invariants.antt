use Rattle.std.proofs.Common.{◌≡◌}
use Rattle.lvm_memory.proofs.GateLemmas.{so_far}
use Rattle.lvm_memory.proofs.queue.delay_by_ticket.Given as goal

abbrev pub invariant-loop-flying : goal.invariant-loop-flying
invariant-loop-flying l = l.flights ≡ so_far l.ticket l.delay l.flying-index l.initial.flights
