use Rattle.std.proofs.Common.{◌≡◌, ◌<◌, ℕ, Option, Some, length, refl, sym, ap, subst, arith}
use Rattle.lvm_memory.specs.Media.{media_of, sizes_of}
use Rattle.lvm_memory.specs.Tally.{counts_of}
use Rattle.lvm_memory.specs.Flights.{flight_of, flights_of, NoDelays}
use Rattle.lvm_disk.specs.Device.{Ordered}
use Rattle.lvm_disk.specs.Steps.{EndsFailed}
use Rattle.lvm_memory.specs.Memory.{device_of}
use Rattle.lvm_memory.proofs.MediaLemmas.Laying.{length-sizes}
use Rattle.lvm_memory.proofs.TicketsLemmas.{none_passed, none_removed}
use Rattle.lvm_memory.proofs.HeedsLemmas.{fails_unheeding, heeds_not, same_ordered}
use Rattle.lvm_memory.proofs.StepsLemmas.{sound_arrived, failed}
use Rattle.lvm_memory.proofs.memory.MemShelf.fail.Goals as goal

pub tear_flight-requires-clause-lies : goal.tear_flight-requires-clause-lies
tear_flight-requires-clause-lies c = c.args.self.now.sound.lie c.args.place _ c.take_flight-flying.ensures.there

pub count_failure-requires-clause-misses : goal.count_failure-requires-clause-misses
count_failure-requires-clause-misses c =
    let s = c.args.self.now in
    let lies : c.take_flight-flying.result.disk < length (sizes_of s.disks.items) = (s.sound.lie c.args.place _ c.take_flight-flying.ensures.there).there in
    let misses : length s.tally.misses ≡ length s.disks.items = s.sound.misses in
    omega (arith, lies, length-sizes s.disks.items, misses)

pub count_failure-requires-clause-faults : goal.count_failure-requires-clause-faults
count_failure-requires-clause-faults c =
    let s = c.args.self.now in
    let lies : c.take_flight-flying.result.disk < length (sizes_of s.disks.items) = (s.sound.lie c.args.place _ c.take_flight-flying.ensures.there).there in
    let faults : length s.tally.faults ≡ length s.disks.items = s.sound.faults in
    omega (arith, lies, length-sizes s.disks.items, faults)

pub invariant_of-self : goal.invariant_of-self
invariant_of-self c = record {
  sound = sound_arrived _ _ _ _ _ _ _ _ _ _ _ _ c.args.place c.args.self.now.sound c.tear_flight.ensures.disks.sizes c.tear_flight.ensures.disks.sectors c.take_flight-flying.ensures.flights
      c.take_flight-flying.ensures.capacity (ap (λ l. length {A = ℕ} l) c.count_failure.ensures.starts) c.count_failure.ensures.misses c.count_failure.ensures.faults;
  delays = λ off. subst NoDelays (sym c.take_flight-flying.ensures.delays) (none_passed _ (none_removed _ c.args.place (c.args.self.now.delays off)));
  heeding = λ heeds. absurd (heeds_not c.args.self.now.heeds _ _ _ c.requires.unheeding heeds);
}

pub returns-clause-gives : goal.returns-clause-gives
returns-clause-gives c =
    let s = c.args.self.now in
    let flying = c.take_flight-flying.result in
    subst (λ (o : Option Ordered). EndsFailed (device_of s) (record (device_of s) { sizes = sizes_of c.tear_flight.new.disks.items; media = Some (media_of c.tear_flight.new.disks.items); flights = flights_of c.take_flight-flying.new.flights.items; counts = counts_of c.count_failure.new.self; orders = record (device_of s).orders { alone = o } }) flying.ticket flying.buf)
    (sym (same_ordered s.heeds s.tally.cuts c.count_failure.new.self.cuts s.fails s.injector.failing s.injector.failing c.count_failure.ensures.cuts (λ heeds. refl)))
    (failed (device_of s) (flight_of flying) c.args.place c.pick.result flying.buf (media_of s.disks.items) (media_of c.tear_flight.new.disks.items) (sizes_of c.tear_flight.new.disks.items)
    (flights_of c.take_flight-flying.new.flights.items) (counts_of c.count_failure.new.self) c.requires.power refl c.take_flight-flying.ensures.there c.tear_flight.ensures.disks.sizes
    c.take_flight-flying.ensures.flights c.tear_flight.ensures.torn refl c.count_failure.ensures.counted (fails_unheeding (device_of s).orders.alone flying.disk c.requires.unheeding))
