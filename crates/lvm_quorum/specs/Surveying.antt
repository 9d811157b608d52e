-- What a survey of all disks says, and how it ends.
use Rattle.std.specs.Prelude.{Vec, ◌≡◌, ℕ, ◌<◌, ◌≤◌, true, false, List, [], ◌∷◌, ◌++◌, length, Some, Result, Ok, Err, slice_get, slice_index, slice_index_or, option_map, IfSome}
use Rattle.std.specs.Global.{Global}
use Rattle.lvm_num.specs.Buffer.{Buffer}
use Rattle.lvm_num.specs.Geometry.{data_start}
use Rattle.lvm_num.specs.Note.{note_in}
use Rattle.lvm_quorum.specs.passed.Transfer.{noted_of, Rose, Device, image_of, DeviceStep, Path, Stop, IsRested, IsCutOff, IsReadStuck, StopGives}
use Rattle.lvm_quorum.specs.declared.area.RecordArea.{RecordArea}
use Rattle.lvm_quorum.specs.declared.row.Survey.{Survey}
use Rattle.lvm_quorum.specs.declared.row.SurveyRow.{SurveyRow}
use Rattle.lvm_quorum.specs.declared.survey.Surveyed.{Surveyed}
use Rattle.lvm_quorum.specs.declared.survey.Surveyed.TheVariants as surveyed
use Rattle.lvm_quorum.specs.Reading.{AreaRead, IsHome, under}
use Rattle.lvm_quorum.specs.Surveyed.{IsEmpty, IsRead, IsRowValid}

-- ---- what a row says

-- the stamps and slots of both records of a row
pub record AreHomes (row : SurveyRow) : Type 0 where
  pub two : length row.homes ≡ 2
  pub descriptor : IsHome row.descriptor row.descriptor_stamp (slice_index row.homes 0)
  pub status : IsHome row.status row.status_stamp (slice_index row.homes 1)

-- the row says what the records hold
pub record IsRowOfArea (area : RecordArea) (row : SurveyRow) : Type 0 where
  pub descriptor : under row.descriptor row.descriptor_stamp ≡ under area.descriptor.value area.descriptor.stamp
  pub status : under row.status row.status_stamp ≡ under area.status.value area.status.stamp
  pub note : option_map noted_of row.note ≡ note_in area.note
  pub homes : row.homes ≡ area.descriptor.home ∷ area.status.home ∷ []

-- ---- the row of a disk

-- a disk too small for records
abbrev pub IsSmall : Device → ℕ → Type 0
IsSmall device disk = slice_index_or device.sizes disk 0 < data_start

-- all records of the disk were read, at some time
pub record WasSurveyed (disk : ℕ) (old new : Device) : Type 0 where
  pub begun : Device
  pub done : Device
  pub before : Path DeviceStep (λ device. Unit {0}) old begun
  pub reads : AreaRead disk begun done
  pub after : Path DeviceStep (λ device. Unit {0}) done new

-- What the row says of a disk of this shelf, whose misses rose exactly where it failed. Where it didn't, all records of a disk that is large enough were read.
pub record IsSurveyed (old new : Device) (disk : ℕ) (row : SurveyRow) : Type 0 where
  pub disk_is : row.disk ≡ disk
  pub sectors : slice_get old.sizes disk ≡ Some row.sectors
  pub valid : IsRowValid row
  pub homes : AreHomes row
  pub failed : row.failed ≡ true → Rose (old.counts.misses disk) (new.counts.misses disk)
  pub answered : row.failed ≡ false → new.counts.misses disk ≡ old.counts.misses disk
  pub read : row.failed ≡ false → IfSome old.media (λ media. IsRead (image_of old.sizes media) disk row)
  pub whole : row.failed ≡ false → (IsSmall old disk → ⊥) → WasSurveyed disk old new
  pub empty : row.failed ≡ true → IsEmpty row

-- how the survey of one disk ended
abbrev pub DiskGives : ℕ → ℕ → ℕ → Device → Device → Result (SurveyRow × Buffer) Stop → Type 0
DiskGives disk number patience old new (Ok got) = IsRested old new × IsSurveyed old new disk got.0 × (got.1.number ≡ number)
DiskGives disk number patience old new (Err how) = StopGives number patience old new how

-- ---- the survey

-- a row for each disk
pub record AreSurveyed (old new : Device) (rows : List SurveyRow) : Type 0 where
  pub all : length rows ≡ length old.sizes
  pub few : length rows ≤ 128
  pub each : (d : ℕ) (row : SurveyRow) → slice_get rows d ≡ Some row → IsSurveyed old new d row

-- how the row of this disk was added to those before it
abbrev pub RowGives : ℕ → ℕ → ℕ → Device → Device → List SurveyRow → List SurveyRow → Result Buffer Stop → Type 0
RowGives disk number patience old new rows more (Ok back) = IsRested old new × ((row : SurveyRow) × IsSurveyed old new disk row × (more ≡ rows ++ row ∷ [])) × (back.number ≡ number)
RowGives disk number patience old new rows more (Err how) = StopGives number patience old new how

-- how the rows of all disks were found
abbrev pub RowsGive : ℕ → ℕ → Device → Device → Result (Vec SurveyRow Global × Buffer) Stop → Type 0
RowsGive number patience old new (Ok got) = IsRested old new × AreSurveyed old new got.0.items × (got.1.number ≡ number)
RowsGive number patience old new (Err how) = StopGives number patience old new how

-- this holds of a survey that was made
abbrev pub IfSurveyed : Surveyed → (Survey → Type 0) → Type 0
IfSurveyed (surveyed.Ended survey buf) P = P survey
IfSurveyed surveyed.Dark P = Unit {0}
IfSurveyed surveyed.Stuck P = Unit {0}
IfSurveyed (surveyed.Memory buf) P = Unit {0}

-- How a survey ended: with a row for each disk, or why not. The buffer of this number comes back where nothing is out and the power is on, and is out
-- where nothing was heard of a read.
abbrev pub SurveyEnds : ℕ → ℕ → Device → Device → Surveyed → Type 0
SurveyEnds number patience old new (surveyed.Ended survey buf) = IsRested old new × AreSurveyed old new survey.rows × (buf.number ≡ number)
SurveyEnds number patience old new surveyed.Dark = IsCutOff old new
SurveyEnds number patience old new surveyed.Stuck = IsReadStuck number patience old new
SurveyEnds number patience old new (surveyed.Memory buf) = IsRested old new × (buf.number ≡ number)
