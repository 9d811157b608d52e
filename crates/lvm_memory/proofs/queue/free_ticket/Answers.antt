use Rattle.std.proofs.Common.{◌≤◌, ◌<◌, ◌+◌, ◌^◌, ℕ, length, sym, subst, arith}
use Rattle.lvm_memory.specs.Flights.{flights_of}
use Rattle.lvm_memory.specs.Tickets.{IsLeastFree}
use Rattle.lvm_memory.proofs.TicketsLemmas.{all_by_ones, least_by_word, few_by_word}
use Rattle.lvm_memory.proofs.queue.free_ticket.Goals as goal

pub later_ticket-requires-clause-taken : goal.later_ticket-requires-clause-taken
later_ticket-requires-clause-taken c = all_by_ones c.args.flights.now c.taken_of-taken.result c.taken_of-taken.ensures c.if-taken.true

pub returns-else-taken-clause-least : goal.returns-else-taken-clause-least
returns-else-taken-clause-least c =
    let some : c.taken_of-taken.result + 1 < 2 ^ 64 = omega (arith, c.taken_of-taken.type_inv, c.if-taken.false) in
    subst (λ (t : ℕ). IsLeastFree t (flights_of c.args.flights.now)) (sym c.trailing_ones.ensures) (least_by_word c.args.flights.now c.taken_of-taken.result c.taken_of-taken.ensures some)

pub returns-else-taken-clause-few : goal.returns-else-taken-clause-few
returns-else-taken-clause-few c =
    let some : c.taken_of-taken.result + 1 < 2 ^ 64 = omega (arith, c.taken_of-taken.type_inv, c.if-taken.false) in
    subst (λ (t : ℕ). t ≤ length c.args.flights.now) (sym c.trailing_ones.ensures) (few_by_word c.args.flights.now c.taken_of-taken.result c.taken_of-taken.ensures some)
