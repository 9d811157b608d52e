use Rattle.std.proofs.Common.{length, vec_capacity}
use Rattle.lvm_memory.specs.Flights.{flights_of}
use Rattle.lvm_memory.proofs.GivenUpLemmas.{CutSoFar}
use Rattle.lvm_memory.proofs.cutting.cut_flights.Given as goal

abbrev pub invariant-loop-flights : goal.invariant-loop-flights
invariant-loop-flights l =
    CutSoFar l.word l.fn.disks.items l.disks.items (flights_of l.fn.flights.items) (flights_of l.flights.items) l.fn.freed.items l.freed.items l.counted (vec_capacity l.fn.freed) (vec_capacity l.freed) (vec_capacity l.fn.flights) (vec_capacity l.flights)

abbrev pub decreases-loop-flights : goal.decreases-loop-flights
decreases-loop-flights l = length l.flights.items
