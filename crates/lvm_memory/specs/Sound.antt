-- What a shelf in memory keeps.
use Rattle.std.specs.Prelude.{◌≡◌, ◌≤◌, ℕ, List, Bool, true, false, length}
use Rattle.lvm_num.specs.Buffer.{Sector}
use Rattle.lvm_disk.specs.Device.{Flight, AreSectors}
use Rattle.lvm_memory.specs.Media.{media_of, sizes_of}
use Rattle.lvm_memory.specs.Flights.{AllLie, NoDelays}
use Rattle.lvm_memory.specs.Tally.{Tallied}
use Rattle.lvm_memory.specs.Injection.{Injection}

-- the lists by disk are as long as there are disks, flights lie within their disks, and there is room for all that a cut frees
pub record IsSound (disks : List (List Sector)) (flights : List Flight) (freed flights_room freed_room : ℕ) (power : Bool) (tally : Tallied) (injection : Injection) : Type 0 where
  pub some : 1 ≤ length disks
  pub most : length disks ≤ 128
  pub sectors : AreSectors (sizes_of disks) (media_of disks)
  pub lie : AllLie (sizes_of disks) flights
  pub few : length flights ≤ 1024
  pub few_freed : freed ≤ 1024
  pub room : 1024 ≤ flights_room
  pub room_freed : 1024 ≤ freed_room
  pub on : power ≡ true → freed ≡ 0
  pub off : power ≡ false → length flights ≡ 0
  pub starts : length tally.starts ≡ length disks
  pub misses : length tally.misses ≡ length disks
  pub faults : length tally.faults ≡ length disks
  pub failing : length injection.failing ≡ length disks

-- nothing is planned, and no flight is passed over
pub record IsUnplanned (injection : Injection) (delays : List ℕ) : Type 0 where
  pub plan : length injection.plan ≡ 0
  pub next : injection.delay ≡ 0
  pub out : NoDelays delays
