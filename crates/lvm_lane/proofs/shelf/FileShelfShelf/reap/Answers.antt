use Rattle.std.proofs.Common.{ℕ, List, length, refl, sym, ap, arith}
use Rattle.lvm_memory.specs.Flights.{flight_of, flights_of, Lies}
use Rattle.lvm_memory.specs.Tally.{counts_of}
use Rattle.lvm_memory.specs.declared.flying.Flying.{Flying}
use Rattle.lvm_lane.proofs.SoundLemmas.{sound_taken}
use Rattle.lvm_lane.proofs.StepsLemmas.{ends_done, ends_failed, counted_alike}
use Rattle.lvm_lane.proofs.shelf.FileShelfShelf.reap.Goals as goal

pub carry_out-requires : goal.carry_out-requires
carry_out-requires g c = record { lies = c.args.self.now.sound.lie 0 _ c.take_flight-flying.ensures.there }

pub invariant_of-self : goal.invariant_of-self
invariant_of-self g c = record { sound = sound_taken _ _ _ _ _ _ _ _ c.args.self.now.sound c.carry_out.ensures.sizes c.take_flight-flying.ensures.flights c.take_flight-flying.ensures.capacity refl refl refl }

pub count_failure-requires-clause-misses : goal.count_failure-requires-clause-misses
count_failure-requires-clause-misses g c =
    let lies : Lies c.args.self.now.disks.items (flight_of c.take_flight-flying.result) = c.args.self.now.sound.lie 0 _ c.take_flight-flying.ensures.there in
    omega (arith, lies.there, c.args.self.now.sound.misses, ap (λ (f : Flying). f.disk) c.carry_out.ensures.same)

pub count_failure-requires-clause-faults : goal.count_failure-requires-clause-faults
count_failure-requires-clause-faults g c =
    let lies : Lies c.args.self.now.disks.items (flight_of c.take_flight-flying.result) = c.args.self.now.sound.lie 0 _ c.take_flight-flying.ensures.there in
    omega (arith, lies.there, c.args.self.now.sound.faults, ap (λ (f : Flying). f.disk) c.carry_out.ensures.same)

pub invariant_of-self-in-Err : goal.invariant_of-self-in-Err
invariant_of-self-in-Err g c = record {
  sound = sound_taken _ _ _ _ _ _ _ _ c.args.self.now.sound c.carry_out.ensures.sizes c.take_flight-flying.ensures.flights c.take_flight-flying.ensures.capacity
      (ap (λ (l : List ℕ). length l) c.count_failure.ensures.starts) c.count_failure.ensures.misses c.count_failure.ensures.faults;
}

pub returns-in-Ok-clause-gives : goal.returns-in-Ok-clause-gives
returns-in-Ok-clause-gives g c =
    let s = c.args.self.now in
    let flying = c.take_flight-flying.result in
    ends_done s.disks.items c.carry_out.new.disks.items (flights_of s.flights.items) (flights_of c.take_flight-flying.new.flights.items) (counts_of s.tally) (flight_of flying) c.carry_out.new.flying.ticket
    c.carry_out.new.flying.buf c.take_flight-flying.ensures.there c.take_flight-flying.ensures.flights c.carry_out.ensures.sizes (sym (ap (λ (f : Flying). f.ticket) c.carry_out.ensures.same))
    c.carry_out.ensures.kept c.carry_out.ensures.rest

pub returns-in-Err-clause-gives : goal.returns-in-Err-clause-gives
returns-in-Err-clause-gives g c =
    let s = c.args.self.now in
    let flying = c.take_flight-flying.result in
    ends_failed s.disks.items c.carry_out.new.disks.items (flights_of s.flights.items) (flights_of c.take_flight-flying.new.flights.items) (counts_of s.tally) (counts_of c.count_failure.new.self)
    (flight_of flying) c.carry_out.new.flying.ticket c.carry_out.new.flying.buf c.take_flight-flying.ensures.there c.take_flight-flying.ensures.flights c.carry_out.ensures.sizes
    (sym (ap (λ (f : Flying). f.ticket) c.carry_out.ensures.same)) c.carry_out.ensures.kept c.carry_out.ensures.rest
    (counted_alike flying c.carry_out.new.flying (counts_of s.tally) (counts_of c.count_failure.new.self) c.carry_out.ensures.same c.count_failure.ensures.counted)
