-- Transfers that are under way, as flights.
use Rattle.std.specs.Prelude.{◌≡◌, ℕ, ◌+◌, ◌-◌, ◌==◌, ◌<◌, ◌≤◌, List, map, length, Some, if◌then◌else◌, slice_get, slice_index_or}
use Rattle.std.specs.List.{AllByRecursion}
use Rattle.lvm_disk.specs.Device.{Flight}
use Rattle.lvm_memory.specs.declared.flying.Flying.{Flying}

-- a transfer as contracts see it
abbrev pub flight_of : Flying → Flight
flight_of f = record { ticket = f.ticket; disk = f.disk; first = f.first; count = f.count; write = f.write; buf = f.buf }

-- the flights, in order of their starts
abbrev pub flights_of : List Flying → List Flight
flights_of flying = map flight_of flying

-- how many reaps still pass each over
abbrev pub delays_of : List Flying → List ℕ
delays_of flying = map (λ f. f.delay) flying

-- each flight that is left was passed over once more
abbrev pub passed : List ℕ → List ℕ
passed delays = map (λ n. n - 1) delays

-- those with this ticket are passed over by so many reaps
abbrev pub delayed : ℕ → ℕ → List Flying → List ℕ
delayed ticket delay flying = map (λ f. if f.ticket == ticket then delay else f.delay) flying

-- none is passed over
abbrev pub NoDelays : List ℕ → Type 0
NoDelays delays = AllByRecursion (λ n. n ≡ 0) delays

-- how many sectors a flight writes
abbrev pub writes : Flight → ℕ
writes f = if f.write then f.count else 0

-- the flight's range lies within its disk
pub record Lies (sizes : List ℕ) (f : Flight) : Type 0 where
  pub there : f.disk < length sizes
  pub most : f.count ≤ 256
  pub within : f.first + f.count ≤ slice_index_or sizes f.disk 0

-- each flight's does
abbrev pub AllLie : List ℕ → List Flight → Type 0
AllLie sizes flights = (i : ℕ) (f : Flight) → slice_get flights i ≡ Some f → Lies sizes f
