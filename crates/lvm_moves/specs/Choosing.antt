-- What the choice of targets needs.
use Rattle.std.specs.Prelude.{◌≤◌, ◌<◌, ℕ, List, length}
use Rattle.lvm_num.specs.declared.place.Pp.{Pp}
use Rattle.lvm_disk.specs.Device.{Device}
use Rattle.lvm_session.specs.State.{Core}
use Rattle.lvm_session.specs.Events.{copy_of}
use Rattle.lvm_session.specs.Placed.{ArePlaced}
use Rattle.lvm_session.specs.Sound.{IsGoing}

-- The members that aren't missing are on the shelf, and as many transfers are out as there may be buffers.
pub record MayChoose (device : Device) (core : Core) : Type 0 where
  pub going : IsGoing core
  pub placed : ArePlaced device.sizes core.descriptor core.status.wanted
  pub few : length core.flying ≤ 1024

-- a partition of a disk of the shelf
pub record IsThere (device : Device) (p : Pp) : Type 0 where
  pub disk : p.disk < length device.sizes
  pub partition : p.pp < 1016

-- a copy of this number, from 1, is on the shelf
pub record IsCopyThere (device : Device) (copies : List Pp) (number : ℕ) : Type 0 where
  pub some : 1 ≤ number
  pub most : number ≤ length copies
  pub there : IsThere device (copy_of copies number)
