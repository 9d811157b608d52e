use Rattle.std.proofs.Common.{ℕ, Option, Some, length, refl, sym, ap, subst, ◌∙◌}
use Rattle.lvm_memory.specs.Media.{media_of, sizes_of, written_by}
use Rattle.lvm_memory.specs.Tally.{counts_of}
use Rattle.lvm_memory.specs.Flights.{flight_of, flights_of, NoDelays}
use Rattle.lvm_disk.specs.Device.{Ordered}
use Rattle.lvm_disk.specs.Steps.{EndsFailed}
use Rattle.lvm_memory.specs.Memory.{device_of}
use Rattle.lvm_memory.specs.declared.flying.Flying.{Flying}
use Rattle.lvm_memory.proofs.TicketsLemmas.{none_passed, none_removed}
use Rattle.lvm_memory.proofs.HeedsLemmas.{same_ordered, fails_as_ordered, still_unplanned}
use Rattle.lvm_memory.proofs.StepsLemmas.{sound_arrived, failed, done}
use Rattle.lvm_memory.proofs.memory.MemShelf.arrive.Goals as goal

pub tear_flight-requires-clause-lies : goal.tear_flight-requires-clause-lies
tear_flight-requires-clause-lies c = c.args.self.now.sound.lie c.args.place _ c.take_flight-flying.ensures.there

pub invariant_of-self : goal.invariant_of-self
invariant_of-self c = record {
  sound = sound_arrived _ _ _ _ _ _ _ _ _ _ _ _ c.args.place c.args.self.now.sound c.tear_flight.ensures.disks.sizes c.tear_flight.ensures.disks.sectors c.take_flight-flying.ensures.flights
      c.take_flight-flying.ensures.capacity (ap (λ l. length {A = ℕ} l) c.count_failure.ensures.starts) c.count_failure.ensures.misses c.count_failure.ensures.faults;
  delays = λ off. subst NoDelays (sym c.take_flight-flying.ensures.delays) (none_passed _ (none_removed _ c.args.place (c.args.self.now.delays off)));
  heeding = λ heeds. still_unplanned _ _ _ (c.args.self.now.heeding heeds) (subst NoDelays (sym c.take_flight-flying.ensures.delays) (none_passed _ (none_removed _ c.args.place (c.args.self.now.heeding heeds).out)));
}

pub returns-then-fails-clause-gives : goal.returns-then-fails-clause-gives
returns-then-fails-clause-gives c =
    let s = c.args.self.now in
    let flying = c.take_flight-flying.result in
    subst (λ (o : Option Ordered). EndsFailed (device_of s) (record (device_of s) { sizes = sizes_of c.tear_flight.new.disks.items; media = Some (media_of c.tear_flight.new.disks.items); flights = flights_of c.take_flight-flying.new.flights.items; counts = counts_of c.count_failure.new.self; orders = record (device_of s).orders { alone = o } }) flying.ticket flying.buf)
    (sym (same_ordered s.heeds s.tally.cuts c.count_failure.new.self.cuts s.fails s.injector.failing s.injector.failing c.count_failure.ensures.cuts (λ heeds. refl)))
    (failed (device_of s) (flight_of flying) c.args.place c.pick.result flying.buf (media_of s.disks.items) (media_of c.tear_flight.new.disks.items) (sizes_of c.tear_flight.new.disks.items)
    (flights_of c.take_flight-flying.new.flights.items) (counts_of c.count_failure.new.self) c.requires.power refl c.take_flight-flying.ensures.there c.tear_flight.ensures.disks.sizes
    c.take_flight-flying.ensures.flights c.tear_flight.ensures.torn refl c.count_failure.ensures.counted (fails_as_ordered s.heeds s.tally.cuts s.fails s.injector.failing flying.disk (sym c.if-fails.ensures)))

pub returns-then-fails-clause-planned : goal.returns-then-fails-clause-planned
returns-then-fails-clause-planned c =
    let flight = flight_of c.take_flight-flying.result in
    record {
      place = c.args.place;
      flight = flight;
      power = c.requires.power;
      first = c.requires.first;
      there = c.take_flight-flying.ensures.there;
      its = refl;
      failed_is = sym c.if-fails.ensures;
      picked = λ is d s. c.tear_flight.ensures.torn d s ∙ ap (λ (word : ℕ). written_by word 0 flight (media_of c.args.self.now.disks.items) d s) c.pick.ensures;
      flights = c.take_flight-flying.ensures.flights;
      delays = c.take_flight-flying.ensures.delays;
      injection = refl;
      room = refl;
    }

pub finish_flight-requires-clause-lies : goal.finish_flight-requires-clause-lies
finish_flight-requires-clause-lies c = c.args.self.now.sound.lie c.args.place _ c.take_flight-flying.ensures.there

pub invariant_of-self-2 : goal.invariant_of-self-2
invariant_of-self-2 c = record {
  sound = sound_arrived _ _ _ _ _ _ _ _ _ _ _ _ c.args.place c.args.self.now.sound c.finish_flight.ensures.disks.sizes c.finish_flight.ensures.disks.sectors c.take_flight-flying.ensures.flights
      c.take_flight-flying.ensures.capacity refl refl refl;
  delays = λ off. subst NoDelays (sym c.take_flight-flying.ensures.delays) (none_passed _ (none_removed _ c.args.place (c.args.self.now.delays off)));
  heeding = λ heeds. still_unplanned _ _ _ (c.args.self.now.heeding heeds) (subst NoDelays (sym c.take_flight-flying.ensures.delays) (none_passed _ (none_removed _ c.args.place (c.args.self.now.heeding heeds).out)));
}

pub returns-clause-gives : goal.returns-clause-gives
returns-clause-gives c =
    let s = c.args.self.now in
    let flying = c.take_flight-flying.result in
    done (device_of s) (flight_of flying) c.args.place c.finish_flight.new.flying.ticket c.finish_flight.new.flying.buf (media_of s.disks.items) (media_of c.finish_flight.new.disks.items)
    (sizes_of c.finish_flight.new.disks.items) (flights_of c.take_flight-flying.new.flights.items) (sym (ap (λ (f : Flying). f.ticket) c.finish_flight.ensures.same)) c.requires.power refl
    c.take_flight-flying.ensures.there c.finish_flight.ensures.disks.sizes c.take_flight-flying.ensures.flights c.finish_flight.ensures.puts c.finish_flight.ensures.kept c.finish_flight.ensures.read
    c.finish_flight.ensures.rest

pub returns-clause-planned : goal.returns-clause-planned
returns-clause-planned c = record {
  place = c.args.place;
  flight = flight_of c.take_flight-flying.result;
  power = c.requires.power;
  first = c.requires.first;
  there = c.take_flight-flying.ensures.there;
  its = sym (ap (λ (f : Flying). f.ticket) c.finish_flight.ensures.same);
  failed_is = sym c.if-fails.ensures;
  picked = λ is. absurd (cc (is));
  flights = c.take_flight-flying.ensures.flights;
  delays = c.take_flight-flying.ensures.delays;
  injection = refl;
  room = refl;
}
