-- The parts of a varyon: the reading of the shelf, the plan by what was read, and its writes.
use Rattle.std.specs.Prelude.{◌≡◌, ℕ, length, List, Some, Result, Ok, Err, slice_get}
use Rattle.lvm_num.specs.Buffer.{Buffer}
use Rattle.lvm_num.specs.Disks.{has}
use Rattle.lvm_disk.specs.Device.{Device}
use Rattle.lvm_rec.specs.declared.homes.Homes.{Homes}
use Rattle.lvm_quorum.specs.declared.row.Survey.{Survey}
use Rattle.lvm_quorum.specs.declared.row.SurveyRow.{SurveyRow}
use Rattle.lvm_quorum.specs.Rows.{AreRows}
use Rattle.lvm_quorum.specs.Surveyed.{IsSurveyValid}
use Rattle.lvm_transfer.specs.Reading.{IsUnwritten, IsRested, IsCutOff}
use Rattle.lvm_quorum.specs.Surveying.{IsSurveyed}
use Rattle.lvm_varyon.specs.passed.Core.{Room, Cause}
use Rattle.lvm_varyon.specs.passed.CoreRefusedCause as cause
use Rattle.lvm_write.specs.Beginning.{Beginning, Part, again_beginning}
use Rattle.lvm_varyon.specs.declared.plan.Plan.{Plan}
use Rattle.lvm_varyon.specs.Planned.{IsPlan}
use Rattle.lvm_varyon.specs.Writing.{AllWritten, WasBrokenOff, OneWriteFailed, IsStillOut}

-- ---- the reading

-- the survey says what the disks of the shelf show, and nothing was written
pub record IsSurveyOf (old new : Device) (survey : Survey) : Type 0 where
  pub rows : AreRows survey
  pub all : length survey.rows ≡ length old.sizes
  pub valid : IsSurveyValid survey
  pub each : (d : ℕ) (row : SurveyRow) → slice_get survey.rows d ≡ Some row → IsSurveyed old new d row
  pub unwritten : IsUnwritten old new
  pub rested : IsRested old new

-- it stopped
module _ (patience : ℕ) (old new : Device) where
  abbrev pub StopsReading : Cause → Type 0
  StopsReading cause.Dark = IsUnwritten old new × IsCutOff old new
  StopsReading cause.Stuck = IsUnwritten old new × IsStillOut patience old new
  StopsReading cause.Memory = IsUnwritten old new × IsRested old new
  StopsReading _ = ⊥

abbrev pub SurveyGives : ℕ → Device → Device → Result (Survey × Buffer) Cause → Type 0
SurveyGives patience old new (Ok got) = IsSurveyOf old new got.0
SurveyGives patience old new (Err why) = StopsReading patience old new why

-- ---- the plan

-- the disks were read, and this is the plan by what they show; the buffer comes back
abbrev pub IsPlannedBy : Device → Device → List ℕ → ℕ → Room → Plan → Type 0
IsPlannedBy old new name moment room plan = (survey : Survey) × IsSurveyOf old new survey × IsPlan survey name moment room plan

-- ---- the writes

-- what is written of a plan under a moment
abbrev pub plan_beginning : ℕ → Plan → Beginning
plan_beginning moment plan = again_beginning moment plan.descriptor plan.status (has plan.targets) plan.homes

module _ (patience : ℕ) (b : Beginning) (parts : List Part) (read new : Device) where
  abbrev pub StopsWriting : Cause → Type 0
  StopsWriting (cause.DiskFailed disk) = OneWriteFailed b parts disk read new
  StopsWriting cause.Dark = IsCutOff read new × WasBrokenOff b parts read new
  StopsWriting cause.Stuck = IsStillOut patience read new × WasBrokenOff b parts read new
  StopsWriting _ = ⊥

  abbrev pub AgainWritesGive : Result (Homes × Buffer) Cause → Type 0
  AgainWritesGive (Ok got) = AllWritten b parts got.0 read new
  AgainWritesGive (Err why) = StopsWriting why
