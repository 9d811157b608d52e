-- The rows of a survey.
use Rattle.std.specs.Prelude.{◌≡◌, ℕ, ◌≤◌, length, Some, slice_get}
use Rattle.lvm_quorum.specs.declared.row.SurveyRow.{SurveyRow}
use Rattle.lvm_quorum.specs.declared.row.Survey.{Survey}

-- at most 128 rows, each that of the disk whose number is its place
pub record AreRows (s : Survey) : Type 0 where
  pub few : length s.rows ≤ 128
  pub own : (d : ℕ) (row : SurveyRow) → slice_get s.rows d ≡ Some row → row.disk ≡ d
