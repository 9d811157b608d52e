use Rattle.std.proofs.Common.{◌≡◌, ◌+◌, ℕ, length, sym, subst, ◌∙◌, ap, arith}
use Rattle.std.specs.Prelude.{slice_get, Some}
use Rattle.lvm_core.specs.Committing.{is_in}
use Rattle.lvm_quorum.specs.declared.row.SurveyRow.{SurveyRow}
use Rattle.lvm_quorum.proofs.SurveyedLemmas.SurveyRows.{row_read}
use Rattle.lvm_extend_plan.proofs.JudgedLemmas.{IsLastBelow, last_more, last_same, last_all, last_shown}
use Rattle.lvm_extend_plan.proofs.shown.last_epoch.Goals as goal
use Rattle.lvm_extend_plan.proofs.shown.last_epoch.Goals.{then-is_in, else-is_in}

pub loop-row-preserved : goal.loop-row-preserved
loop-row-preserved c =
    let s = c.args.survey.now in
    let disks = c.args.disks.now in
    let i = c.loop-row.row-index in
    let row = c.row-item.result in
    let at : slice_get s.rows i ≡ Some row = row_read s c.as_slice-row-items.result.now i row c.as_slice-row-items.ensures (omega arith) c.row-item.is in
    let here : c.is_in.result ≡ is_in disks i = c.is_in.ensures ∙ ap (is_in disks) (c.requires.own i row at) in
    elim c.if-is_in.branch [
      | then-is_in w ↦ subst (λ (n : ℕ). IsLastBelow s disks (i + 1) n) (sym w.last-is)
          (last_more s disks i c.loop-row.last w.last_of.result w.max-last.result row at (sym here ∙ w.if-is_in.true) c.loop-row.invariant w.last_of.ensures w.max-last.ensures)
      | else-is_in w ↦ subst (λ (n : ℕ). IsLastBelow s disks (i + 1) n) (sym w.last-is) (last_same s disks i c.loop-row.last row at (sym here ∙ w.if-is_in.false) c.loop-row.invariant)
    ]

pub returns-clause-all : goal.returns-clause-all
returns-clause-all c =
    let s = c.args.survey.now in
    let size : length c.as_slice-row-items.result.now ≡ length s.rows = ap (length {A = SurveyRow}) c.as_slice-row-items.ensures in
    last_all s c.args.disks.now c.loop-row.row-index c.loop-row.last (omega (arith, size)) c.loop-row.invariant

pub returns-clause-one : goal.returns-clause-one
returns-clause-one c = last_shown c.args.survey.now c.args.disks.now c.loop-row.row-index c.loop-row.last c.loop-row.invariant
