use Rattle.std.proofs.Common.{◌≡◌, ◌++◌, ◌∷◌, [], ◌∙◌, List, Option, false, subst, sym, ap}
use Rattle.lvm_disk.specs.Device.{Ordered}
use Rattle.lvm_disk.specs.Steps.{Starts}
use Rattle.lvm_memory.specs.Injection.{Injection}
use Rattle.lvm_memory.specs.Flights.{flight_of, flights_of, delays_of}
use Rattle.lvm_memory.specs.Tally.{Tallied, counts_of}
use Rattle.lvm_memory.specs.Tickets.{has_ticket}
use Rattle.lvm_memory.specs.Memory.{device_of}
use Rattle.lvm_memory.specs.declared.flying.Flying.{Flying}
use Rattle.lvm_memory.proofs.FlightsLemmas.Starting.{started, flights_more, delays_more, range_lies}
use Rattle.lvm_memory.proofs.DepartureLemmas.{sound_departed, delays_departed}
use Rattle.lvm_memory.proofs.HeedsLemmas.{same_ordered, departed_unplanned}
use Rattle.lvm_memory.proofs.memory.MemShelf.depart.Goals as goal

pub invariant_of-self : goal.invariant_of-self
invariant_of-self c =
    let s = c.args.self.now in
    let flying : Flying =
    record { ticket = c.free_ticket-ticket.result; disk = c.args.disk; first = c.args.first; count = c.args.count; write = c.args.write; buf = c.args.buf; delay = c.take_delay-delay.result } in
    let is : flights_of c.push.new.self.items ≡ flights_of s.flights.items ++ flight_of flying ∷ [] = ap flights_of c.in-Ok.ensures.items ∙ flights_more s.flights.items flying in
    record {
      sound = sound_departed _ _ _ _ _ _ _ _ _ _ _ _ s.sound (flight_of flying) (range_lies (device_of s) (flight_of flying) c.requires.range) c.requires.few c.requires.power c.push.ensures.capacity is c.count_start.ensures.long c.count_start.ensures.same c.take_delay-delay.ensures.none;
      delays = delays_departed s.delayed c.take_delay-delay.result (delays_of s.flights.items) (delays_of c.push.new.self.items) s.delays (ap delays_of c.in-Ok.ensures.items ∙ delays_more s.flights.items flying);
      heeding = λ heeds. departed_unplanned _ _ (delays_of s.flights.items) (delays_of c.push.new.self.items) c.take_delay-delay.result (s.heeding heeds) c.take_delay-delay.ensures.taken c.take_delay-delay.ensures.none (ap delays_of c.in-Ok.ensures.items ∙ delays_more s.flights.items flying);
    }

pub returns-clause-starts : goal.returns-clause-starts
returns-clause-starts c =
    let s = c.args.self.now in
    let flying : Flying =
    record { ticket = c.free_ticket-ticket.result; disk = c.args.disk; first = c.args.first; count = c.args.count; write = c.args.write; buf = c.args.buf; delay = c.take_delay-delay.result } in
    let is : flights_of c.push.new.self.items ≡ flights_of s.flights.items ++ flight_of flying ∷ [] = ap flights_of c.in-Ok.ensures.items ∙ flights_more s.flights.items flying in
    let free : has_ticket flying.ticket (flights_of s.flights.items) ≡ false =
    subst (λ (l : List Flying). has_ticket flying.ticket (flights_of l) ≡ false) c.deref.ensures.value c.free_ticket-ticket.ensures.least.free in
    subst (λ (o : Option Ordered). Starts (device_of s) (record (device_of s) { flights = flights_of c.push.new.self.items; counts = counts_of c.count_start.new.self; orders = record (device_of s).orders { alone = o }; wrote = c.note.new.self.wrote }) (flight_of flying))
    (sym (same_ordered s.heeds s.tally.cuts c.count_start.new.self.cuts s.fails s.injector.failing c.take_delay-delay.new.self.failing (ap (λ (t : Tallied). t.cuts) c.count_start.ensures.same) (λ heeds. ap (λ (i : Injection). i.failing) c.take_delay-delay.ensures.none)))
    (started (device_of s) (flight_of flying) s.log.room (flights_of c.push.new.self.items) (counts_of c.count_start.new.self) c.note.new.self.wrote c.requires.power free is c.count_start.ensures.rose (ap counts_of c.count_start.ensures.same) c.note.ensures.wrote)
