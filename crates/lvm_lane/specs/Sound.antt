-- What a shelf of image files keeps.
use Rattle.std.specs.Prelude.{◌≡◌, ◌≤◌, ℕ, List, length}
use Rattle.lvm_disk.specs.Device.{Flight}
use Rattle.lvm_memory.specs.Flights.{AllLie}
use Rattle.lvm_memory.specs.Tally.{Tallied}

-- the lists by disk are as long as there are disks, the queued transfers lie within their disks, and there is room for as many as may be out
pub record IsSound (sizes : List ℕ) (flights : List Flight) (queue_room : ℕ) (tally : Tallied) : Type 0 where
  pub some : 1 ≤ length sizes
  pub most : length sizes ≤ 128
  pub lie : AllLie sizes flights
  pub few : length flights ≤ 1024
  pub room : 1024 ≤ queue_room
  pub starts : length tally.starts ≡ length sizes
  pub misses : length tally.misses ≡ length sizes
  pub faults : length tally.faults ≡ length sizes
