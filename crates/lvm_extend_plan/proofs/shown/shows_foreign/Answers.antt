use Rattle.std.proofs.Common.{◌≡◌, length, Some, ap, sym, ◌∙◌, arith}
use Rattle.std.specs.Prelude.{slice_get}
use Rattle.std.proofs.lemmas.Bool.{false≢true}
use Rattle.lvm_core.specs.Committing.{is_in}
use Rattle.lvm_quorum.specs.declared.row.SurveyRow.{SurveyRow}
use Rattle.lvm_quorum.proofs.SurveyedLemmas.SurveyRows.{row_read}
use Rattle.lvm_extend_plan.specs.Judged.{HasForeign}
use Rattle.lvm_extend_plan.proofs.JudgedLemmas.{rows_more, rows_all, foreign_shows, none_foreign}
use Rattle.lvm_extend_plan.proofs.shown.shows_foreign.Goals as goal
use Rattle.lvm_extend_plan.proofs.shown.shows_foreign.Goals.{else-is_in-via-then-is_in+else-is_foreign, else-is_in-via-else-is_in}

pub returns-then-is_foreign-clause-yes : goal.returns-then-is_foreign-clause-yes
returns-then-is_foreign-clause-yes c =
    let s = c.args.survey.now in
    let disks = c.args.disks.now in
    let i = c.loop-row.row-index in
    let row = c.row-item.result in
    let at : slice_get s.rows i ≡ Some row = row_read s c.as_slice-row-items.result.now i row c.as_slice-row-items.ensures (omega arith) c.row-item.is in
    let here : c.is_in.result ≡ is_in disks i = c.is_in.ensures ∙ ap (is_in disks) (c.requires.own i row at) in
    λ yes. foreign_shows s disks c.args.id i row at (sym here ∙ c.if-is_in.true) (c.is_foreign.ensures.0 c.if-is_foreign.true)

pub loop-row-preserved : goal.loop-row-preserved
loop-row-preserved c =
    let s = c.args.survey.now in
    let disks = c.args.disks.now in
    let i = c.loop-row.row-index in
    let row = c.row-item.result in
    let at : slice_get s.rows i ≡ Some row = row_read s c.as_slice-row-items.result.now i row c.as_slice-row-items.ensures (omega arith) c.row-item.is in
    let here : c.is_in.result ≡ is_in disks i = c.is_in.ensures ∙ ap (is_in disks) (c.requires.own i row at) in
    rows_more (λ (r : SurveyRow). HasForeign r c.args.id → ⊥) s disks i row at c.loop-row.invariant (λ named foreign. elim c.else-is_in.branch [
      | else-is_in-via-then-is_in+else-is_foreign w ↦ false≢true (sym w.if-is_foreign.false ∙ w.is_foreign.ensures.1 foreign)
      | else-is_in-via-else-is_in w ↦ false≢true (sym w.if-is_in.false ∙ here ∙ named)
    ])

pub returns-clause-no : goal.returns-clause-no
returns-clause-no c =
    let s = c.args.survey.now in
    let size : length c.as_slice-row-items.result.now ≡ length s.rows = ap (length {A = SurveyRow}) c.as_slice-row-items.ensures in
    λ no. none_foreign s c.args.disks.now c.args.id (rows_all (λ (r : SurveyRow). HasForeign r c.args.id → ⊥) s c.args.disks.now c.loop-row.row-index (omega (arith, size)) c.loop-row.invariant)
