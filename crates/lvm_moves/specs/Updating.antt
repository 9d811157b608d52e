-- The write of a status that is started next.
use Rattle.std.specs.Prelude.{◌≡◌, ◌<◌, ℕ, true, false, Option, Some, length, slice_get}
use Rattle.lvm_num.specs.Buffer.{Buffer}
use Rattle.lvm_num.specs.Disks.{IsLowest}
use Rattle.lvm_num.specs.declared.record.Kind.TheVariants as kind
use Rattle.lvm_num.specs.declared.status.Status.{Status}
use Rattle.lvm_num.specs.Record.{frame, record_sectors}
use Rattle.lvm_num.specs.StatusBytes.{status_bytes}
use Rattle.lvm_disk.specs.Device.{Device}
use Rattle.lvm_status.specs.Calls.{with_start}
use Rattle.lvm_status.specs.Update.{Stored, seen}
use Rattle.lvm_session.specs.State.{Core}
use Rattle.lvm_session.specs.Enabled.{is_lost, is_status_due}
use Rattle.lvm_session.specs.Events.{PutsInFlight}
use Rattle.lvm_session.specs.Placed.{ArePlaced}

-- An update is begun where none is in flight, and its write to the least disk that is left, if there is one, counts as started.
pub record NextOn (old new : Stored) (disk : Option ℕ) : Type 0 where
  pub begun : Stored
  pub begins : PutsInFlight old begun
  pub lowest : IsLowest (seen begun).unstarted disk
  pub started : seen new ≡ with_start (seen begun) disk

-- A write of the status is due, a member is left to which it goes, and the members that aren't missing are on the shelf.
pub record MayStartStatus (device : Device) (core : Core) : Type 0 where
  pub due : is_status_due core ≡ true
  pub votes : is_lost core ≡ false
  pub placed : ArePlaced device.sizes core.descriptor core.status.wanted

-- a buffer carries the record of the status in flight, in so many sectors
pub record CarriesUpdate (stored : Stored) (count : ℕ) (buf : Buffer) : Type 0 where
  pub status : Status
  pub flies : stored.in_flight ≡ Some status
  pub count_is : count ≡ record_sectors (length (status_bytes status))
  pub sectors : (k : ℕ) → k < count → slice_get buf.sectors k ≡ Some (frame kind.Status stored.stamp (status_bytes status) k)
