-- What a shelf of image files stands for.
use Rattle.std.specs.Prelude.{◌≡◌, ℕ, List, [], ◌∷◌, None, true, false}
use Rattle.lvm_disk.specs.Device.{Flight, Device}
use Rattle.lvm_disk.specs.declared.shelf.Reaped.{Reaped}
use Rattle.lvm_disk.specs.declared.shelf.Reaped.TheVariants as reaped
use Rattle.lvm_disk.specs.Counts.{Counts}
use Rattle.lvm_memory.specs.Tally.{counts_of}
use Rattle.lvm_memory.specs.Flights.{flights_of}
use Rattle.lvm_lane.specs.declared.shelf.FileShelf.{FileShelf}

-- disks of these sizes whose content isn't told, that take no arrangements and at which nothing has happened yet
abbrev pub idle_device : List ℕ → Device
idle_device sizes = record {
  sizes = sizes;
  media = None;
  flights = [];
  freed = [];
  power = true;
  counts = record { starts = λ d. 0; misses = λ d. 0; faults = λ d. 0; cuts = 0; waits = 0 };
  arranges = false;
  orders = record { made = 0; last = None; alone = None };
  wrote = None;
}

-- the same with these transfers queued and these counts; the power is always on, and no buffer is ever given up
abbrev pub working_device : List ℕ → List Flight → Counts → Device
working_device sizes flights counts = record (idle_device sizes) { flights = flights; counts = counts }

abbrev pub device_of : {F : Type 0} → FileShelf F → Device
device_of s = working_device s.disks.items (flights_of s.flights.items) (counts_of s.tally)

-- the transfer with this ticket was the oldest, and is no longer out
pub record IsOldest (old new : Device) (ticket : ℕ) : Type 0 where
  pub flight : Flight
  pub its : flight.ticket ≡ ticket
  pub first : old.flights ≡ flight ∷ new.flights

-- a reap ends the oldest transfer, well or not
abbrev pub EndsOldest : Device → Device → Reaped → Type 0
EndsOldest old new reaped.Empty = ⊥
EndsOldest old new (reaped.Done ticket buf) = IsOldest old new ticket
EndsOldest old new (reaped.Failed ticket buf) = IsOldest old new ticket
EndsOldest old new (reaped.Dark freed) = ⊥
