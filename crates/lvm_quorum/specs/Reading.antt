-- What reads of a disk's records find.
use Rattle.std.specs.Prelude.{◌≡◌, ℕ, List, Option, Result, option_map, IfSome}
use Rattle.lvm_num.specs.declared.record.Kind.{Kind}
use Rattle.lvm_num.specs.declared.record.Kind.TheVariants as kind
use Rattle.lvm_num.specs.Descriptor.{IsValid}
use Rattle.lvm_num.specs.DescriptorBytes.{descriptor_of}
use Rattle.lvm_num.specs.Record.{slot_size, slot_start}
use Rattle.lvm_num.specs.Status.{IsValidStatus}
use Rattle.lvm_num.specs.StatusBytes.{status_of}
use Rattle.lvm_num.specs.Torn.{Sectors}
use Rattle.lvm_transfer.specs.passed.Rec.{held, newest_on, slot_of, Latest}
use Rattle.lvm_transfer.specs.passed.Disk.{Image, Device}
use Rattle.lvm_transfer.specs.passed.Kept.{note_sector, contents_of}
use Rattle.lvm_transfer.specs.Reading.{SectorsRead}
use Rattle.lvm_quorum.specs.declared.area.RecordArea.{RecordArea}
pub use Rattle.lvm_transfer.specs.passed.Rec.{under, home_of, stamped_found, IsHome}
use Rattle.lvm_num.specs.declared.descriptor.Descriptor.{Descriptor}

-- ---- records that are found

-- the newest descriptor that a disk of the image shows
abbrev pub descriptor_shown : Image → ℕ → Option Descriptor
descriptor_shown image d = option_map (λ r. r.value) ((contents_of image).descriptor d)

-- ---- what is read

-- the newest record of the kind on a disk with these sectors, and the slot that has it
pub record IsLatestOn {X : Type 0} (content_of : List ℕ → Result X ℕ) (kind : Kind) (sectors : Sectors) (latest : Latest X) : Type 0 where
  pub newest : under latest.value latest.stamp ≡ newest_on content_of kind sectors
  pub home : latest.home ≡ home_of (held content_of kind (slot_of kind 0 sectors)) (held content_of kind (slot_of kind 1 sectors))

-- a record that was found is valid, and has a slot
pub record IsValidLatest {X : Type 0} (Valid : X → Type 0) (latest : Latest X) : Type 0 where
  pub value : IfSome latest.value Valid
  pub home : IsHome latest.value latest.stamp latest.home

-- the newest records and the bytes of the note on a disk with these sectors
pub record IsArea (sectors : Sectors) (area : RecordArea) : Type 0 where
  pub descriptor : IsLatestOn descriptor_of kind.Descriptor sectors area.descriptor
  pub status : IsLatestOn status_of kind.Status sectors area.status
  pub note : area.note ≡ sectors note_sector

-- both records are valid where they were found
pub record IsAreaValid (area : RecordArea) : Type 0 where
  pub descriptor : IsValidLatest IsValid area.descriptor
  pub status : IsValidLatest IsValidStatus area.status

-- ---- which sectors are read

-- both slots of a kind on a disk were read whole, one after the other
pub record SlotsRead (kind : Kind) (disk : ℕ) (old new : Device) : Type 0 where
  pub between : Device
  pub first : SectorsRead disk (slot_start kind 0) (slot_size kind) old between
  pub second : SectorsRead disk (slot_start kind 1) (slot_size kind) between new

-- all records of a disk were read: the slots of descriptors, then those of statuses, then the note
pub record AreaRead (disk : ℕ) (old new : Device) : Type 0 where
  pub after_descriptors : Device
  pub after_statuses : Device
  pub descriptors : SlotsRead kind.Descriptor disk old after_descriptors
  pub statuses : SlotsRead kind.Status disk after_descriptors after_statuses
  pub note : SectorsRead disk note_sector 1 after_statuses new
