-- What the disks of an image show: the records of each, and its data.
use Rattle.std.specs.Prelude.{ℕ, Bool, ◌&&◌, nat_le, nat_lt, if◌then◌else◌, List, [], Option, None, Result}
use Rattle.lvm_disk.specs.passed.Num.{Descriptor, Status, Kind, Sector, descriptor_of, data_start, status_of, Stamped, Noted, note_in}
use Rattle.lvm_disk.specs.passed.NumRecordKind as kind
use Rattle.lvm_rec.specs.Slots.{newest_on}
use Rattle.lvm_disk.specs.Device.{Image}

-- What the disks show: how many there are and how large, the newest descriptor and status of each with their stamps,
-- its consistency record, and what stands at each sector from the beginning of its data on.
pub record Contents : Type 0 where
  pub disks : ℕ
  pub size : ℕ → ℕ
  pub descriptor : ℕ → Option (Stamped Descriptor)
  pub status : ℕ → Option (Stamped Status)
  pub note : ℕ → Option Noted
  pub block : ℕ → ℕ → Sector

-- ---- from sectors to that

-- the sector of a disk at which its consistency record stands
abbrev pub note_sector : ℕ
note_sector = 8

-- the disk is there, and large enough for the records
abbrev pub has_records : Image → ℕ → Bool
has_records image d = nat_lt d image.disks && nat_le data_start (image.size d)

-- the newest record of a kind on a disk
abbrev pub newest_at : {X : Type 0} → (List ℕ → Result X ℕ) → Kind → Image → ℕ → Option (Stamped X)
newest_at content_of kind image d = if has_records image d then newest_on content_of kind (image.sector d) else None

-- the newest descriptor and the newest status of a disk, and its consistency record
unfoldable pub descriptor_on : Image → ℕ → Option (Stamped Descriptor)
descriptor_on image d = newest_at descriptor_of kind.Descriptor image d

unfoldable pub status_on : Image → ℕ → Option (Stamped Status)
status_on image d = newest_at status_of kind.Status image d

unfoldable pub note_on : Image → ℕ → Option Noted
note_on image d = if has_records image d then note_in (image.sector d note_sector) else None

-- what stands at a sector of the data; sectors below are no data
abbrev pub data_at : Image → ℕ → ℕ → Sector
data_at image d s = if nat_lt s data_start then [] else image.sector d s

-- what an image shows
abbrev pub contents_of : Image → Contents
contents_of image = record { disks = image.disks; size = image.size; descriptor = descriptor_on image; status = status_on image; note = note_on image; block = data_at image }
