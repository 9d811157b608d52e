-- What a write of a record to some disks may leave, and what the disks then show.
use Rattle.std.specs.Prelude.{◌≡◌, ◌⊎◌, ℕ, ◌+◌, ◌<◌, ◌≤◌, true, if◌then◌else◌, List, length, Option, Some, None, Result, IsTrue}
use Rattle.lvm_disk.specs.passed.Num.{Stamp, Framed, Descriptor, Status, Kind, Buffer, Sector, zero_sector, Disks, descriptor_of, status_of, Noted, note_in, Frames, Stamped, frame, record_sectors, slot_start, slot_size, stamp_lt, Sectors, AllBefore}
use Rattle.lvm_disk.specs.passed.NumRecordKind as kind
use Rattle.lvm_rec.specs.Slots.{SlotWrite, IsOfSlot, StandsIn, MayWrite, BothBefore}
use Rattle.lvm_disk.specs.Device.{Media, Image, Device, image_of, written as flown, IsInFlight, MayLeave}
use Rattle.lvm_disk.specs.Steps.{EndsDone}
use Rattle.lvm_disk.specs.Paths.{DeviceStep}
use Rattle.lvm_kept.specs.Contents.{has_records, newest_at, note_sector, Contents, contents_of}
use Rattle.lvm_kept.specs.Plans.{Plan, ChangesBy, IsUnderWay, StepIsPlanned}

-- ---- the write

-- One record, the disks that it goes to, and the slot of each.
pub record RecordWrite : Type 0 where
  pub kind : Kind
  pub framed : Framed
  pub targets : Disks
  pub slots : ℕ → ℕ

-- its part on one disk
abbrev pub on_disk : RecordWrite → ℕ → SlotWrite
on_disk w d = record { kind = w.kind; framed = w.framed; slot = w.slots d }

-- this is the value of one of the record's sectors, at that sector's place in the slot of a target
pub record IsOfRecord (w : RecordWrite) (d s : ℕ) (value : Sector) : Type 0 where
  pub target : IsTrue (w.targets d)
  pub its : IsOfSlot (on_disk w d) s value

-- The sector is outside the slots of the record's kind, as one of a note, of the other kind's records or of data, whatever its
-- value; or it is one of the record's.
abbrev pub IsOtherOrRecord : RecordWrite → Plan
IsOtherOrRecord w d s value = (s < slot_start w.kind 0) ⊎ (slot_start w.kind 1 + slot_size w.kind ≤ s) ⊎ IsOfRecord w d s value

-- all of the record stands on the disk
abbrev pub StandsOn : RecordWrite → Image → ℕ → Type 0
StandsOn w image d = StandsIn (on_disk w d) (image.sector d)

-- the write's record may go to each of its targets
pub record MayWriteAll (X : Type 0) (content_of : List ℕ → Result X ℕ) (w : RecordWrite) (x : X) (image : Image) : Type 0 where
  pub frames : Frames w.kind w.framed
  pub slots : (d : ℕ) → w.slots d < 2
  pub there : (d : ℕ) → IsTrue (w.targets d) → has_records image d ≡ true
  pub each : (d : ℕ) → IsTrue (w.targets d) → MayWrite X content_of (on_disk w d) x (image.sector d)

-- the record as it is read
abbrev pub written : {X : Type 0} → RecordWrite → X → Stamped X
written w x = record { stamp = w.framed.stamp; value = x }

-- ---- laws

-- Whatever of the write has landed, and whatever else is being written, each disk's newest record of the kind is what it was; or on a
-- target the new one, and that only where all of it stands there.
abbrev pub NewestIsOldOrNew : Type 0 → Type 0
NewestIsOldOrNew X =
    (content_of : List ℕ → Result X ℕ) (w : RecordWrite) (x : X) (old new : Image) (d : ℕ)
    → MayWriteAll X content_of w x old → ChangesBy (IsOtherOrRecord w) old new
    → (newest_at content_of w.kind new d ≡ newest_at content_of w.kind old d)
    ⊎ (IsTrue (w.targets d) × (newest_at content_of w.kind new d ≡ Some (written w x)) × StandsOn w new d)

-- Where all of it stands on a target, it is the new one.
abbrev pub WholeIsNew : Type 0 → Type 0
WholeIsNew X =
    (content_of : List ℕ → Result X ℕ) (w : RecordWrite) (x : X) (old new : Image) (d : ℕ)
    → MayWriteAll X content_of w x old → ChangesBy (IsOtherOrRecord w) old new → IsTrue (w.targets d) → StandsOn w new d
    → newest_at content_of w.kind new d ≡ Some (written w x)

-- Each target has its old descriptor or the new one, and all else is what it was.
pub record DescriptorsChange (targets : Disks) (next : Stamped Descriptor) (old new : Contents) : Type 0 where
  pub own : (d : ℕ) → (new.descriptor d ≡ old.descriptor d) ⊎ (IsTrue (targets d) × (new.descriptor d ≡ Some next))
  pub rest : new ≡ record old { descriptor = new.descriptor }

-- Each target has its old status or the new one, and all else is what it was.
pub record StatusesChange (targets : Disks) (next : Stamped Status) (old new : Contents) : Type 0 where
  pub own : (d : ℕ) → (new.status d ≡ old.status d) ⊎ (IsTrue (targets d) × (new.status d ≡ Some next))
  pub rest : new ≡ record old { status = new.status }

-- So it is of a write of a descriptor while nothing else is being written.
abbrev pub DescriptorWriteShows : Type 0
DescriptorWriteShows =
    (w : RecordWrite) (group : Descriptor) (old new : Image) → w.kind ≡ kind.Descriptor → MayWriteAll Descriptor descriptor_of w group old → ChangesBy (IsOfRecord w) old new
    → DescriptorsChange w.targets (written w group) (contents_of old) (contents_of new)

-- So it is of a write of a status.
abbrev pub StatusWriteShows : Type 0
StatusWriteShows =
    (w : RecordWrite) (status : Status) (old new : Image) → w.kind ≡ kind.Status → MayWriteAll Status status_of w status old → ChangesBy (IsOfRecord w) old new
    → StatusesChange w.targets (written w status) (contents_of old) (contents_of new)

-- ---- what has ended well stands

-- a part of the record stands on the disk in each crash image
abbrev pub PartStands : RecordWrite → Device → ℕ → ℕ → Type 0
PartStands w device d part = (image : Image) → MayLeave device image → image.sector d (slot_start w.kind (w.slots d) + part) ≡ frame w.kind w.framed.stamp w.framed.content part

-- A part that a flight has brought well stands,
abbrev pub EndedPartStands : Type 0
EndedPartStands =
    (w : RecordWrite) (old : Image) (before after : Device) (ticket : ℕ) (buf : Buffer) (ends : EndsDone before after ticket buf) (d part : ℕ) (value : Sector)
    → IsUnderWay (IsOtherOrRecord w) old before → w.slots d < 2 → part < record_sectors (length w.framed.content) → Frames w.kind w.framed
    → flown ends.flight d (slot_start w.kind (w.slots d) + part) ≡ Some value → PartStands w after d part

-- and goes on standing while no other record of the kind is written.
abbrev pub StandingPartStays : Type 0
StandingPartStays =
    (w : RecordWrite) (before after : Device) (step : DeviceStep before after) (d part : ℕ)
    → StepIsPlanned (IsOtherOrRecord w) step → w.slots d < 2 → part < record_sectors (length w.framed.content) → Frames w.kind w.framed
    → PartStands w before d part → PartStands w after d part

-- ---- notes

-- this is the new note's sector, on a target
pub record IsOfNote (targets : Disks) (sector : Sector) (d s : ℕ) (value : Sector) : Type 0 where
  pub target : IsTrue (targets d)
  pub place : s ≡ note_sector
  pub is : value ≡ sector

-- what the note of a disk is, where this sector stands there
abbrev pub note_by : Image → ℕ → Sector → Option Noted
note_by image d sector = if has_records image d then note_in sector else None

-- each target has its old note or the new one, and all else is what it was
pub record NotesChange (image : Image) (targets : Disks) (sector : Sector) (old new : Contents) : Type 0 where
  pub own : (d : ℕ) → (new.note d ≡ old.note d) ⊎ (IsTrue (targets d) × (new.note d ≡ note_by image d sector))
  pub rest : new ≡ record old { note = new.note }

-- A note is one sector: it is the old one or the new one.
abbrev pub NoteWriteShows : Type 0
NoteWriteShows = (targets : Disks) (sector : Sector) (old new : Image) → ChangesBy (IsOfNote targets sector) old new → NotesChange old targets sector (contents_of old) (contents_of new)

-- ---- step by step

-- the sector is outside the slots of the kind
abbrev pub IsOutsideSlots : Kind → Plan
IsOutsideSlots kind d s value = (s < slot_start kind 0) ⊎ (slot_start kind 1 + slot_size kind ≤ s)

-- Then the newest records of the kind are what they were.
abbrev pub NewestStays : Type 0 → Type 0
NewestStays X = (content_of : List ℕ → Result X ℕ) (kind : Kind) (old new : Image) (d : ℕ) → ChangesBy (IsOutsideSlots kind) old new → newest_at content_of kind new d ≡ newest_at content_of kind old d

-- What is being written: one record and nothing else; one record, and anything outside the slots of its kind; anything outside the slots of
-- a kind; or a note.
pub data Writing : Type 0 where
  Alone : RecordWrite → Writing
  AmongOthers : RecordWrite → Writing
  Outside : Kind → Writing
  Note : Disks → Sector → Writing

abbrev pub brings : Writing → Plan
brings (Alone w) = IsOfRecord w
brings (AmongOthers w) = IsOtherOrRecord w
brings (Outside kind) = IsOutsideSlots kind
brings (Note targets sector) = IsOfNote targets sector

-- It begins from what stands on the media, where what is in flight is of it already, as where nothing is;
abbrev pub WritingBegins : Type 0
WritingBegins =
    (x : Writing) (device : Device) (media : Media) → device.media ≡ Some media → ((d s : ℕ) (value : Sector) → IsInFlight device.flights d s value → brings x d s value)
    → IsUnderWay (brings x) (image_of device.sizes media) device

-- each step of the shelf that starts no other flight keeps it;
abbrev pub StepKeepsWriting : Type 0
StepKeepsWriting = (x : Writing) (old : Image) (before after : Device) (step : DeviceStep before after) → StepIsPlanned (brings x) step → IsUnderWay (brings x) old before → IsUnderWay (brings x) old after

-- and where nothing else is being written, nothing else needs to be looked at.
abbrev pub AloneIsAmongOthers : Type 0
AloneIsAmongOthers = (w : RecordWrite) (old : Image) (device : Device) → IsUnderWay (IsOfRecord w) old device → IsUnderWay (IsOtherOrRecord w) old device

-- ---- when a record may be written

-- Under a stamp after all that stand in the slots of a disk, torn leftovers included, a record may be written there, and a write under an earlier
-- stamp leaves all of them before it, whatever else is being written.
abbrev pub EarlierStaysBefore : Type 0
EarlierStaysBefore =
    (w : RecordWrite) (stamp : Stamp) (old new : Image) → Frames w.kind w.framed → ((d : ℕ) → w.slots d < 2) → ChangesBy (IsOtherOrRecord w) old new → stamp_lt w.framed.stamp stamp ≡ true
    → (d : ℕ) → ((slot : ℕ) → slot < 2 → AllBefore w.kind stamp (slot_start w.kind slot) (old.sector d)) → (slot : ℕ) → slot < 2 → AllBefore w.kind stamp (slot_start w.kind slot) (new.sector d)

-- On disks whose slots are zeros any stamp is later.
abbrev pub ZerosAreBefore : Type 0
ZerosAreBefore = (w : SlotWrite) (sectors : Sectors) → ((slot k : ℕ) → slot < 2 → k < slot_size w.kind → sectors (slot_start w.kind slot + k) ≡ zero_sector) → BothBefore w sectors
