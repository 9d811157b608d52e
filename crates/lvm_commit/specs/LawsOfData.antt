-- What data that is written to a free partition keeps, and how a session's disks show what is committed while no record is written.
use Rattle.std.specs.Prelude.{◌≡◌, ◌⊎◌, ℕ, ◌+◌, ◌*◌, ◌<◌, ◌≤◌, [], List, Some, Contains, IsTrue}
use Rattle.lvm_num.specs.declared.place.Pp.{Pp}
use Rattle.lvm_num.specs.declared.record.Stamp.{Stamp}
use Rattle.lvm_num.specs.declared.descriptor.Descriptor.{Descriptor}
use Rattle.lvm_num.specs.declared.status.Status.{Status}
use Rattle.lvm_num.specs.Buffer.{Sector}
use Rattle.lvm_num.specs.Disks.{Disks}
use Rattle.lvm_num.specs.Descriptor.{partitions_used}
use Rattle.lvm_num.specs.Geometry.{data_start, partition_blocks}
use Rattle.lvm_num.specs.Votes.{CanWrite}
use Rattle.lvm_vol.specs.Facts.{Fact}
use Rattle.lvm_disk.specs.Device.{Media, Image, Flight, Device, image_of, written, MayLeave}
use Rattle.lvm_disk.specs.Paths.{DeviceStep, Path}
use Rattle.lvm_kept.specs.Contents.{Contents, contents_of}
use Rattle.lvm_kept.specs.Committed.{IsWithinDisks}
use Rattle.lvm_kept.specs.Kept.{Kept}
use Rattle.lvm_kept.specs.Places.{SameRecords}
use Rattle.lvm_kept.specs.Raw.{OnlyAdds}
use Rattle.lvm_steps.specs.Moments.{StaysKept}
use Rattle.lvm_steps.specs.Requests.{IsOfData}
use Rattle.lvm_rec.specs.declared.homes.Homes.{Homes}
use Rattle.lvm_commit.specs.Committed.{ShowsCommitted, HoldsCommitted}

-- ---- where it may go

-- no volume of the group has the partition
abbrev pub IsFree : Descriptor → Pp → Type 0
IsFree group pp = Contains (partitions_used group) pp → ⊥

-- the sector is one of the partition
pub record IsSectorOf (mib : ℕ) (pp : Pp) (d s : ℕ) : Type 0 where
  pub disk : d ≡ pp.disk
  pub low : data_start + partition_blocks mib * pp.pp ≤ s
  pub high : s < data_start + partition_blocks mib * pp.pp + partition_blocks mib

-- Sectors of the partition differ, and nothing else.
pub record PartitionChange (mib : ℕ) (pp : Pp) (old new : Contents) : Type 0 where
  pub each : (d s : ℕ) → (new.block d s ≡ old.block d s) ⊎ IsSectorOf mib pp d s
  pub rest : new ≡ record old { block = new.block }

-- Whatever data stands in a free partition of a member that isn't missing keeps the history.
abbrev pub FreeDataKeeps : Type 0
FreeDataKeeps = (group : Descriptor) (status : Status) (there : Disks) (pp : Pp) (old new : Contents) (facts : List Fact)
    → IsWithinDisks old → CanWrite group there → ShowsCommitted old group status there → IsTrue (there pp.disk) → IsFree group pp → PartitionChange group.mib pp old new → Kept old facts → Kept new facts

-- ---- while it is written

-- the flight brings nothing but sectors of the partition
abbrev pub IsFlightOf : ℕ → Pp → Flight → Type 0
IsFlightOf mib pp f = (d s : ℕ) (value : Sector) → written f d s ≡ Some value → IsSectorOf mib pp d s

-- So it is at each moment of one transfer that begins on a still shelf, however it ends and if it doesn't.
abbrev pub FreeDataGoesOn : Type 0
FreeDataGoesOn = (group : Descriptor) (status : Status) (there : Disks) (pp : Pp) (f : Flight) (media : Media) (old new : Device)
    → old.media ≡ Some media → old.flights ≡ [] → CanWrite group there → ShowsCommitted (contents_of (image_of old.sizes media)) group status there → IsTrue (there pp.disk) → IsFree group pp
    → IsFlightOf group.mib pp f → Path DeviceStep (OnlyAdds f old) old new → Path DeviceStep (StaysKept old) old new

-- ---- what stays committed

-- Disks that show what is committed go on showing it while data alone is written,
abbrev pub DataKeepsCommitted : Type 0
DataKeepsCommitted = (group : Descriptor) (status : Status) (there : Disks) (stamp : Stamp) (homes : Homes) (old new : Image)
    → SameRecords old new → HoldsCommitted old group status there stamp homes → HoldsCommitted new group status there stamp homes

-- each crash image of a still shelf shows it as its media does,
abbrev pub StillHoldsCommitted : Type 0
StillHoldsCommitted = (group : Descriptor) (status : Status) (there : Disks) (stamp : Stamp) (homes : Homes) (device : Device) (media : Media)
    → device.media ≡ Some media → device.flights ≡ [] → HoldsCommitted (image_of device.sizes media) group status there stamp homes
    → (image : Image) → MayLeave device image → HoldsCommitted image group status there stamp homes

-- and so does each after one transfer of data that begins there, however it ends and if it doesn't.
abbrev pub TransferHoldsCommitted : Type 0
TransferHoldsCommitted = (group : Descriptor) (status : Status) (there : Disks) (stamp : Stamp) (homes : Homes) (f : Flight) (media : Media) (old new : Device)
    → old.media ≡ Some media → old.flights ≡ [] → HoldsCommitted (image_of old.sizes media) group status there stamp homes → IsOfData f → OnlyAdds f old new
    → (image : Image) → MayLeave new image → HoldsCommitted image group status there stamp homes
