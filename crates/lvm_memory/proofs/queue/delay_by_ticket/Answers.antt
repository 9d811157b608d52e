use Rattle.std.proofs.Common.{◌≡◌, ◌∙◌, length, ap, arith, ℕ}
use Rattle.lvm_memory.specs.Flights.{delays_of, flights_of}
use Rattle.lvm_memory.specs.declared.flying.Flying.{Flying}
use Rattle.std.proofs.Common.{get_or}
use Rattle.lvm_memory.proofs.GateLemmas.{all_delayed, next_delayed, same_flights, so_far}
use Rattle.lvm_memory.proofs.queue.delay_by_ticket.Goals as goal

pub loop-flying-preserved : goal.loop-flying-preserved
loop-flying-preserved c =
    let f : Flying = get_or c.loop-flying.flights c.loop-flying.flying-index c.flying-item.result in
    next_delayed c.args.ticket c.args.delay c.args.flights.now c.loop-flying.flights c.loop-flying.flying-index c.flying-item.result _ c.loop-flying.invariant (omega arith) (ap (λ (n : ℕ). record f { delay = n }) c.delay_of-flying.ensures)

pub returns-clause-flights : goal.returns-clause-flights
returns-clause-flights c =
    let all : c.loop-flying.flying-index ≡ length c.args.flights.now = omega arith in
    ap flights_of c.loop-flying.invariant ∙ ap (λ (n : ℕ). flights_of (so_far c.args.ticket c.args.delay n c.args.flights.now)) all ∙ same_flights c.args.ticket c.args.delay c.args.flights.now

pub returns-clause-delays : goal.returns-clause-delays
returns-clause-delays c =
    let all : c.loop-flying.flying-index ≡ length c.args.flights.now = omega arith in
    ap delays_of c.loop-flying.invariant ∙ ap (λ (n : ℕ). delays_of (so_far c.args.ticket c.args.delay n c.args.flights.now)) all ∙ all_delayed c.args.ticket c.args.delay c.args.flights.now
