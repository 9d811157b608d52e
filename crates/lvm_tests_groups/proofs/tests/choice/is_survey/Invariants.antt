use Rattle.std.proofs.Common.{◌≡◌, ℕ, ◌<◌, Some}
use Rattle.std.specs.Prelude.{slice_get}
use Rattle.lvm_quorum.specs.declared.row.SurveyRow.{SurveyRow}
use Rattle.lvm_quorum.specs.Surveyed.{IsRowValid}
use Rattle.lvm_tests_groups.proofs.tests.choice.is_survey.Given as goal

abbrev pub invariant-loop-place : goal.invariant-loop-place
invariant-loop-place l = (d : ℕ) → d < l.place → (row : SurveyRow) → slice_get l.survey.rows d ≡ Some row → (row.disk ≡ d) × IsRowValid row
