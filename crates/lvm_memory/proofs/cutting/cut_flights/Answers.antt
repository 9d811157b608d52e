use Rattle.std.proofs.Common.{◌+◌, ◌<◌, vec_capacity, arith}
use Rattle.lvm_memory.specs.Flights.{writes, flight_of, flights_of}
use Rattle.lvm_memory.proofs.GivenUpLemmas.{headed, lies_next, few_more, one_cut}
use Rattle.lvm_memory.proofs.cutting.cut_flights.Goals as goal

pub tear_flight-requires-clause-lies : goal.tear_flight-requires-clause-lies
tear_flight-requires-clause-lies c =
    let next = headed c.loop-flights.flights.items c.remove-flying.result c.remove-flying.new.self.items (omega arith) c.remove-flying.ensures.value c.remove-flying.ensures.items in
    lies_next _ _ _ _ _ _ _ _ _ _ _ _ c.loop-flights.invariant (flight_of c.remove-flying.result) (flights_of c.remove-flying.new.self.items) next

pub overflow_add-counted : goal.overflow_add-counted
overflow_add-counted c =
    let next = headed c.loop-flights.flights.items c.remove-flying.result c.remove-flying.new.self.items (omega arith) c.remove-flying.ensures.value c.remove-flying.ensures.items in
    let few : c.loop-flights.counted + writes (flight_of c.remove-flying.result) < 262145 =
    omega (arith, few_more _ _ _ _ _ _ _ _ _ _ _ _ c.loop-flights.invariant (flight_of c.remove-flying.result) (flights_of c.remove-flying.new.self.items) next) in
    omega (arith, c.writes-counted.ensures)

pub loop-flights-preserved : goal.loop-flights-preserved
loop-flights-preserved c =
    let next = headed c.loop-flights.flights.items c.remove-flying.result c.remove-flying.new.self.items (omega arith) c.remove-flying.ensures.value c.remove-flying.ensures.items in
    one_cut _ _ _ _ _ _ _ _ _ _ _ _ c.loop-flights.invariant (flight_of c.remove-flying.result) (flights_of c.remove-flying.new.self.items) next c.tear_flight.new.disks.items c.push.new.self.items
    (c.loop-flights.counted + c.writes-counted.result) (vec_capacity c.push.new.self) (vec_capacity c.remove-flying.new.self) c.tear_flight.ensures.disks.sizes c.tear_flight.ensures.torn
    c.tear_flight.ensures.disks.sectors c.in-Ok.ensures.items (omega arith) c.push.ensures.capacity (omega arith)
