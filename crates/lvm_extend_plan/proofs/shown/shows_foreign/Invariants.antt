use Rattle.std.proofs.Common.{◌≡◌, ℕ, ◌<◌, Some}
use Rattle.std.specs.Prelude.{slice_get, IsTrue}
use Rattle.lvm_core.specs.Committing.{is_in}
use Rattle.lvm_quorum.specs.declared.row.SurveyRow.{SurveyRow}
use Rattle.lvm_extend_plan.specs.Judged.{HasForeign}
use Rattle.lvm_extend_plan.proofs.shown.shows_foreign.Given as goal

abbrev pub invariant-loop-row : goal.invariant-loop-row
invariant-loop-row l = (d : ℕ) (row : SurveyRow) → d < l.row-index → slice_get l.survey.rows d ≡ Some row → IsTrue (is_in l.disks d) → HasForeign row l.id → ⊥
