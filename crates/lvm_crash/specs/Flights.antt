-- A session of a group and a shelf: what is out, and what stands on its media.
use Rattle.std.specs.Prelude.{◌≡◌, ◌⊎◌, ℕ, ◌≤◌, List, Option, None, Some, IsTrue}
use Rattle.lvm_num.specs.declared.place.Pp.{Pp}
use Rattle.lvm_num.specs.declared.descriptor.Descriptor.{Descriptor}
use Rattle.lvm_num.specs.declared.status.Status.{Status}
use Rattle.lvm_num.specs.declared.record.Kind.TheVariants as kind
use Rattle.lvm_num.specs.Buffer.{Sector}
use Rattle.lvm_num.specs.Geometry.{data_start, sector_of}
use Rattle.lvm_num.specs.Note.{note_in}
use Rattle.lvm_num.specs.Record.{Stamped}
use Rattle.lvm_num.specs.StatusBytes.{status_of}
use Rattle.lvm_vol.specs.Facts.{Fact}
use Rattle.lvm_kept.specs.passed.Disk.{Media, Image, Device, IsInFlight, image_of}
use Rattle.lvm_kept.specs.Contents.{note_sector, contents_of}
use Rattle.lvm_kept.specs.Group.{names_if}
use Rattle.lvm_kept.specs.Plans.{IsUnderWay}
use Rattle.lvm_kept.specs.Torn.{RecordWrite, IsOfRecord, IsOtherOrRecord, IsOutsideSlots, MayWriteAll}
use Rattle.lvm_invariant.specs.State.{Groups, ModelState}
use Rattle.lvm_invariant.specs.Crash.{Brings, CopyBrings}
use Rattle.lvm_crash.specs.Session.{Describes}

-- An update of the status is being written. Since it began, on what stood then, nothing else has gone to the slots of statuses; and where a
-- sector of it is out, the state has its write out.
pub record UpdateIsOut (s : ModelState) (device : Device) (u : Stamped Status) : Type 0 where
  pub write : RecordWrite
  pub is_status : write.kind ≡ kind.Status
  pub stamp : write.framed.stamp ≡ u.stamp
  pub began : Image
  pub may : MayWriteAll Status status_of write u.value began
  pub way : IsUnderWay (IsOtherOrRecord write) began device
  pub flying : (d at : ℕ) (value : Sector) → IsInFlight device.flights d at value → IsOfRecord write d at value → IsTrue (s.status_flying d)

-- only the update in flight, if any, goes to the slots of statuses
abbrev pub OnlyUpdateIsOut : ModelState → Device → Option (Stamped Status) → Type 0
OnlyUpdateIsOut s device None = (d at : ℕ) (value : Sector) → IsInFlight device.flights d at value → IsOutsideSlots kind.Status d at value
OnlyUpdateIsOut s device (Some u) = UpdateIsOut s device u

-- What is out is what the state has out: over a block of a copy, a write or a step of a copy that brings this there; over a note, the note in
-- flight; in the slots of statuses, the update in flight. Nothing is out to a slot of descriptors, nor to the data of a disk in no group.
pub record HasOut (s : ModelState) (group : Descriptor) (in_flight : Option (Stamped Status)) (device : Device) (media : Media) : Type 0 where
  pub blocks : (lv b : ℕ) (p : Pp) (value : Sector) → IsTrue (s.is_copy lv b p) → IsInFlight device.flights p.disk (sector_of group.mib p.pp b) value → Brings s lv b p value ⊎ CopyBrings s lv b p value
  pub notes : (d : ℕ) (value : Sector) → IsInFlight device.flights d note_sector value
      → (n : Groups) × (s.flying_note d ≡ Some n) × ((lv track_group : ℕ) → names_if (note_in value) lv track_group ≡ n lv track_group)
  pub statuses : OnlyUpdateIsOut s device in_flight
  pub descriptors : (d at : ℕ) (value : Sector) → IsInFlight device.flights d at value → IsOutsideSlots kind.Descriptor d at value
  pub raw : (d at : ℕ) (value : Sector) → (contents_of (image_of device.sizes media)).descriptor d ≡ None → data_start ≤ at → IsInFlight device.flights d at value → ⊥

-- The state describes what stands on the media, and has out what is out.
pub record Matches (s : ModelState) (facts : List Fact) (group : Descriptor) (in_flight : Option (Stamped Status)) (device : Device) (media : Media) : Type 0 where
  pub told : device.media ≡ Some media
  pub describes : Describes s facts group in_flight (contents_of (image_of device.sizes media))
  pub out : HasOut s group in_flight device media
