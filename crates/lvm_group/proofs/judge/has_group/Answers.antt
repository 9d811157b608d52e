use Rattle.std.proofs.Common.{◌≡◌, inl, inr, length, Some, ap, subst, arith}
use Rattle.std.specs.Prelude.{slice_get}
use Rattle.std.proofs.lemmas.Bool.{cases_lt}
use Rattle.lvm_quorum.specs.declared.row.SurveyRow.{SurveyRow}
use Rattle.lvm_quorum.proofs.SurveyedLemmas.SurveyRows.{row_read}
use Rattle.lvm_group.specs.Judged.{DiskIsTaken}
use Rattle.lvm_group.proofs.JudgedLemmas.{taken_shows, none_shown, same_row}
use Rattle.lvm_group.proofs.judge.has_group.Goals as goal

pub returns-then-is_taken-clause-yes : goal.returns-then-is_taken-clause-yes
returns-then-is_taken-clause-yes c =
    let s = c.args.survey.now in
    let i = c.loop-row.row-index in
    let row = c.row-item.result in
    let at = row_read s c.as_slice-row-items.result.now i row c.as_slice-row-items.ensures (omega arith) c.row-item.is in
    λ yes. taken_shows s c.args.force i row at (c.if-is_taken.ensures.0 yes)

pub loop-row-preserved : goal.loop-row-preserved
loop-row-preserved c =
    let s = c.args.survey.now in
    let i = c.loop-row.row-index in
    let row = c.row-item.result in
    let at = row_read s c.as_slice-row-items.result.now i row c.as_slice-row-items.ensures (omega arith) c.row-item.is in
    λ d other lt on taken. elim (cases_lt d i) [
      | inl before ↦ c.loop-row.invariant d other before on taken
      | inr here ↦
          let same : d ≡ i = omega (arith, here, lt) in
          let its : DiskIsTaken row c.args.force = subst (λ (r : SurveyRow). DiskIsTaken r c.args.force) (same_row s i other row (subst (λ e. slice_get s.rows e ≡ Some other) same on) at) taken in
          let yes = c.if-is_taken.ensures.1 its in absurd cc
    ]

pub returns-clause-no : goal.returns-clause-no
returns-clause-no c =
    let s = c.args.survey.now in
    let size : length c.as_slice-row-items.result.now ≡ length s.rows = ap (length {A = SurveyRow}) c.as_slice-row-items.ensures in
    λ no. none_shown s c.args.force c.loop-row.row-index (omega (arith, size)) c.loop-row.invariant
