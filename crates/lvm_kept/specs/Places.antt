-- Which sectors say what.
use Rattle.std.specs.Prelude.{◌≡◌, ℕ, ◌<◌, ◌≤◌}
use Rattle.lvm_disk.specs.passed.Num.{Pp, data_start, sector_of}
use Rattle.lvm_disk.specs.Device.{Image, SameDisks}
use Rattle.lvm_kept.specs.Contents.{data_at, contents_of}
use Rattle.lvm_kept.specs.Group.{block_at}

-- below the data the sectors are the same
pub record SameRecords (old new : Image) : Type 0 where
  pub same : SameDisks old new
  pub sectors : (d s : ℕ) → s < data_start → new.sector d s ≡ old.sector d s

-- A change of data sectors alone changes no record.
abbrev pub DataWritesKeepRecords : Type 0
DataWritesKeepRecords = (old new : Image) → SameRecords old new → contents_of new ≡ record (contents_of old) { block = data_at new }

-- from its beginning on, the data is the same
abbrev pub SameData : Image → Image → Type 0
SameData old new = (d s : ℕ) → data_start ≤ s → new.sector d s ≡ old.sector d s

-- A change of sectors below the data changes no data,
abbrev pub RecordWritesKeepData : Type 0
RecordWritesKeepData = (old new : Image) → SameData old new → data_at new ≡ data_at old

-- and a block of a volume on a copy is one sector of the data.
abbrev pub BlocksAreSectors : Type 0
BlocksAreSectors = (image : Image) (mib b : ℕ) (p : Pp) → block_at (contents_of image) mib p b ≡ image.sector p.disk (sector_of mib p.pp b)
