-- What each transfer is that is out of a session: a read, or the write of a request, of a step of a copy, of a note, or of the update of the status.
use Rattle.std.specs.Prelude.{◌≡◌, ◌⊎◌, ℕ, ◌+◌, ◌<◌, true, false, List, length, Option, Some, None, IsTrue, IsFalse, slice_get}
use Rattle.std.specs.List.{AllByRecursion}
use Rattle.lvm_num.specs.declared.place.Pp.{Pp}
use Rattle.lvm_num.specs.declared.descriptor.Descriptor.{Descriptor}
use Rattle.lvm_num.specs.declared.status.Status.{Status}
use Rattle.lvm_num.specs.declared.record.Kind.TheVariants as kind
use Rattle.lvm_num.specs.Buffer.{Sector}
use Rattle.lvm_num.specs.Descriptor.{IsValid}
use Rattle.lvm_num.specs.Geometry.{sector_of}
use Rattle.lvm_num.specs.Note.{note_in}
use Rattle.lvm_num.specs.Record.{Stamped, frame, record_sectors, slot_start}
use Rattle.lvm_num.specs.StatusBytes.{status_of}
use Rattle.lvm_vol.specs.Facts.{Fact}
use Rattle.lvm_disk.specs.Device.{Media, Image, Flight, Device, image_of}
use Rattle.lvm_kept.specs.Contents.{note_sector, contents_of}
use Rattle.lvm_kept.specs.Group.{names_if}
use Rattle.lvm_kept.specs.Plans.{IsUnderWay}
use Rattle.lvm_kept.specs.Torn.{RecordWrite, IsOtherOrRecord, MayWriteAll}
use Rattle.lvm_invariant.specs.State.{Groups, Flying, Queued, StepWrite, ModelState, is_past, Started}
use Rattle.lvm_invariant.specs.Sound.{Tied}
use Rattle.lvm_even.specs.Members.{members_showing}
use Rattle.lvm_crash.specs.Session.{HasVolumes}
use Rattle.lvm_crash.specs.Flights.{HasOut}

-- It writes these blocks of a request to a copy.
pub record IsTransfer (mib : ℕ) (r : Queued) (value : ℕ → Sector) (c : Pp) (f : Flight) : Type 0 where
  pub write : f.write ≡ true
  pub disk : f.disk ≡ c.disk
  pub first : f.first ≡ sector_of mib c.pp r.first
  pub count : f.count ≡ r.count
  pub carries : (k : ℕ) → k < r.count → slice_get f.buf.sectors k ≡ Some (value (r.first + k))

-- a write of the queue that has started, to one of its targets
pub record IsDataFlight (s : ModelState) (mib : ℕ) (f : Flight) : Type 0 where
  pub place : ℕ
  pub req : Queued
  pub started : Started s place req
  pub copy : Pp
  pub flies : req.targets copy ≡ Some Flying
  pub aimed : IsTrue (s.is_copy req.lv req.first copy)
  pub transfer : IsTransfer mib req req.value copy f

-- what a step has got, to the copy that it is for
pub record IsStepFlight (s : ModelState) (mib : ℕ) (f : Flight) : Type 0 where
  pub step : StepWrite
  pub flies : s.step_write ≡ Some step
  pub req : Queued
  pub there : s.queue step.place ≡ Some req
  pub read : IsFalse req.write
  pub past : IsTrue (is_past req.phase)
  pub value : ℕ → Sector
  pub got : req.got ≡ Some value
  pub aimed : IsTrue (s.is_copy req.lv req.first step.target)
  pub transfer : IsTransfer mib req value step.target f

-- the note of a disk
pub record IsNoteFlight (s : ModelState) (f : Flight) : Type 0 where
  pub write : f.write ≡ true
  pub first : f.first ≡ note_sector
  pub count : f.count ≡ 1
  pub note : Groups
  pub flies : s.flying_note f.disk ≡ Some note
  pub sector : Sector
  pub carries : slice_get f.buf.sectors 0 ≡ Some sector
  pub names : (lv track_group : ℕ) → names_if (note_in sector) lv track_group ≡ note lv track_group

-- the update of the status, whole
pub record IsStatusFlight (s : ModelState) (w : RecordWrite) (f : Flight) : Type 0 where
  pub write : f.write ≡ true
  pub flies : IsTrue (s.status_flying f.disk)
  pub target : IsTrue (w.targets f.disk)
  pub first : f.first ≡ slot_start w.kind (w.slots f.disk)
  pub count : f.count ≡ record_sectors (length w.framed.content)
  pub carries : (k : ℕ) → k < f.count → slice_get f.buf.sectors k ≡ Some (frame w.kind w.framed.stamp w.framed.content k)

abbrev pub IsOfUpdate : ModelState → Option RecordWrite → Flight → Type 0
IsOfUpdate s None f = ⊥
IsOfUpdate s (Some w) f = IsStatusFlight s w f

abbrev pub IsOwned : ModelState → ℕ → Option RecordWrite → Flight → Type 0
IsOwned s mib w f = (f.write ≡ false) ⊎ IsDataFlight s mib f ⊎ IsStepFlight s mib f ⊎ IsNoteFlight s f ⊎ IsOfUpdate s w f

abbrev pub AllOwned : ModelState → ℕ → Option RecordWrite → List Flight → Type 0
AllOwned s mib w flights = AllByRecursion (IsOwned s mib w) flights

-- This update of the status has been written since that image, over which nothing else has gone into the slots of statuses.
pub record UpdateSince (device : Device) (w : RecordWrite) (u : Stamped Status) : Type 0 where
  pub is_status : w.kind ≡ kind.Status
  pub stamp : w.framed.stamp ≡ u.stamp
  pub began : Image
  pub may : MayWriteAll Status status_of w u.value began
  pub way : IsUnderWay (IsOtherOrRecord w) began device

abbrev pub OnlyUpdateSince : Device → Option RecordWrite → Option (Stamped Status) → Type 0
OnlyUpdateSince device None None = Unit {0}
OnlyUpdateSince device (Some w) (Some u) = UpdateSince device w u
OnlyUpdateSince device (Some w) None = ⊥
OnlyUpdateSince device None (Some u) = ⊥

-- Where each transfer that is out is one of these, what is out is what the state has out.
abbrev pub OwnersHaveOut : Type 0
OwnersHaveOut =
    (s : ModelState) (facts : List Fact) (group : Descriptor) (w : Option RecordWrite) (in_flight : Option (Stamped Status)) (device : Device) (media : Media)
    → IsValid group → Tied s → HasVolumes s facts group (members_showing (contents_of (image_of device.sizes media)) group)
    → AllOwned s group.mib w device.flights → OnlyUpdateSince device w in_flight → HasOut s group in_flight device media
