use Rattle.std.proofs.Common.{◌∙◌, sym, ap}
use Rattle.std.specs.List.{remove}
use Rattle.lvm_memory.specs.Flights.{flight_of, flights_of, delays_of}
use Rattle.lvm_memory.specs.declared.flying.Flying.{Flying}
use Rattle.lvm_memory.proofs.TicketsLemmas.{remove-map, none_removed, passed_none}
use Rattle.lvm_memory.proofs.queue.take_flight.Goals as goal

pub returns-else-delayed-clause-flights : goal.returns-else-delayed-clause-flights
returns-else-delayed-clause-flights c = ap flights_of c.remove.ensures.items ∙ remove-map flight_of c.args.flights.now.items c.args.place

pub returns-else-delayed-clause-delays : goal.returns-else-delayed-clause-delays
returns-else-delayed-clause-delays c =
    let old = c.args.flights.now.items in
    ap delays_of c.remove.ensures.items ∙ remove-map (λ (f : Flying). f.delay) old c.args.place
    ∙ sym (passed_none (remove (delays_of old) c.args.place) (none_removed (delays_of old) c.args.place (c.requires.delayed c.if-delayed.false)))
