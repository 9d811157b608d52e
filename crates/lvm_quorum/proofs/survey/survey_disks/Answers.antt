use Rattle.std.proofs.Common.{◌≡◌, ◌≤◌, List, Some, length, slice_get, sym, subst}
use Rattle.lvm_quorum.specs.declared.row.SurveyRow.{SurveyRow}
use Rattle.lvm_quorum.specs.Surveying.{AreSurveyed}
use Rattle.lvm_quorum.proofs.survey.survey_disks.Goals as goal

pub returns-in-Ok-clause-rows : goal.returns-in-Ok-clause-rows
returns-in-Ok-clause-rows g c = record {
  few = subst (λ (l : List SurveyRow). length l ≤ 128) (sym c.new.ensures) c.in-Ok.ensures.gives.1.few;
  own = λ d row got. (c.in-Ok.ensures.gives.1.each d row (subst (λ (l : List SurveyRow). slice_get l d ≡ Some row) c.new.ensures got)).disk_is;
}

pub returns-in-Ok-clause-valid : goal.returns-in-Ok-clause-valid
returns-in-Ok-clause-valid g c d row got = (c.in-Ok.ensures.gives.1.each d row (subst (λ (l : List SurveyRow). slice_get l d ≡ Some row) c.new.ensures got)).valid

pub returns-in-Ok-clause-ends : goal.returns-in-Ok-clause-ends
returns-in-Ok-clause-ends g c =
    let gives = c.in-Ok.ensures.gives in
    (gives.0, subst (λ (l : List SurveyRow). AreSurveyed (g.S.Shelf.device c.args.shelf.now) (g.S.Shelf.device c.survey_rows.new.shelf) l) (sym c.new.ensures) gives.1, gives.2)
