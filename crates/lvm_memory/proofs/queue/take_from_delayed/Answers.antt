use Rattle.std.proofs.Common.{◌∙◌, List, length, ap, arith}
use Rattle.lvm_memory.specs.Flights.{passed, flight_of, flights_of, delays_of}
use Rattle.lvm_memory.specs.declared.flying.Flying.{Flying}
use Rattle.lvm_memory.proofs.TicketsLemmas.{written_over, remove-map}
use Rattle.lvm_memory.proofs.queue.take_from_delayed.Goals as goal

pub returns-clause-flights : goal.returns-clause-flights
returns-clause-flights c =
    let left = c.remove-flying.new.self in
    let same = ap (λ (l : List Flying). length l) c.deref_mut.ensures.value in
    ap flights_of (written_over left.len c.pass_over.new.flights left.items (omega (arith, same, c.deref_mut.ensures.len)) (omega (arith, same, c.pass_over.auto.flights))) ∙ c.pass_over.ensures.flights
    ∙ ap flights_of (c.deref_mut.ensures.value ∙ c.remove-flying.ensures.items) ∙ remove-map flight_of c.args.flights.now.items c.args.place

pub returns-clause-delays : goal.returns-clause-delays
returns-clause-delays c =
    let left = c.remove-flying.new.self in
    let same = ap (λ (l : List Flying). length l) c.deref_mut.ensures.value in
    ap delays_of (written_over left.len c.pass_over.new.flights left.items (omega (arith, same, c.deref_mut.ensures.len)) (omega (arith, same, c.pass_over.auto.flights))) ∙ c.pass_over.ensures.delays
    ∙ ap (λ (l : List Flying). passed (delays_of l)) (c.deref_mut.ensures.value ∙ c.remove-flying.ensures.items) ∙ ap passed (remove-map (λ (f : Flying). f.delay) c.args.flights.now.items c.args.place)
