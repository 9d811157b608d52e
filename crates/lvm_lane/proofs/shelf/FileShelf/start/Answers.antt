use Rattle.std.proofs.Common.{◌≡◌, ◌++◌, ◌∷◌, [], ◌∙◌, List, None, false, refl, subst, ap}
use Rattle.lvm_memory.specs.Flights.{flight_of, flights_of}
use Rattle.lvm_memory.specs.Tally.{counts_of}
use Rattle.lvm_memory.specs.Tickets.{has_ticket}
use Rattle.lvm_memory.specs.declared.flying.Flying.{Flying}
use Rattle.lvm_memory.proofs.FlightsLemmas.Starting.{started, flights_more, range_lies}
use Rattle.lvm_lane.specs.Files.{device_of}
use Rattle.lvm_lane.proofs.SoundLemmas.{sound_queued, untold}
use Rattle.lvm_lane.proofs.shelf.FileShelf.start.Goals as goal

pub invariant_of-self : goal.invariant_of-self
invariant_of-self g c =
    let s = c.args.self.now in
    let flying : Flying = record { ticket = c.free_ticket-ticket.result; disk = c.args.disk; first = c.args.first; count = c.args.count; write = c.args.write; buf = c.args.buf; delay = 0 } in
    let is : flights_of c.push.new.self.items ≡ flights_of s.flights.items ++ flight_of flying ∷ [] = ap flights_of c.in-Ok.ensures.items ∙ flights_more s.flights.items flying in
    record { sound = sound_queued _ _ _ _ _ _ _ s.sound (flight_of flying) (range_lies (device_of s) (flight_of flying) c.requires.range) c.requires.few c.push.ensures.capacity is c.count_start.ensures.long c.count_start.ensures.same }

pub returns : goal.returns
returns g c =
    let s = c.args.self.now in
    let flying : Flying = record { ticket = c.free_ticket-ticket.result; disk = c.args.disk; first = c.args.first; count = c.args.count; write = c.args.write; buf = c.args.buf; delay = 0 } in
    let is : flights_of c.push.new.self.items ≡ flights_of s.flights.items ++ flight_of flying ∷ [] = ap flights_of c.in-Ok.ensures.items ∙ flights_more s.flights.items flying in
    let free : has_ticket flying.ticket (flights_of s.flights.items) ≡ false =
    subst (λ (l : List Flying). has_ticket flying.ticket (flights_of l) ≡ false) c.deref.ensures.value c.free_ticket-ticket.ensures.least.free in
    record { gives = started (device_of s) (flight_of flying) 0 (flights_of c.push.new.self.items) (counts_of c.count_start.new.self) None refl free is c.count_start.ensures.rose (ap counts_of c.count_start.ensures.same) (untold c.args.write (record { disk = c.args.disk; first = c.args.first; count = c.args.count })) }
