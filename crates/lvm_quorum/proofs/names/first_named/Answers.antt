use Rattle.std.proofs.Common.{◌≡◌, length, ap, arith}
use Rattle.lvm_quorum.specs.declared.row.SurveyRow.{SurveyRow}
use Rattle.lvm_quorum.proofs.SurveyedLemmas.SurveyRows.{row_read}
use Rattle.lvm_quorum.proofs.GroupsLemmas.Naming.{named_more, named_all}
use Rattle.lvm_quorum.proofs.names.first_named.Goals as goal

pub loop-row-preserved : goal.loop-row-preserved
loop-row-preserved c =
    let s = c.args.survey.now in
    let i = c.loop-row.row-index in
    let row = c.row-item.result in
    let at = row_read s c.as_slice-row-items.result.now i row c.as_slice-row-items.ensures (omega arith) c.row-item.is in
    named_more s c.args.name.now (λ id. ⊥) i row at c.loop-row.invariant c.in_default.ensures.none

pub returns-clause-none : goal.returns-clause-none
returns-clause-none c =
    let s = c.args.survey.now in
    let size : length c.as_slice-row-items.result.now ≡ length s.rows = ap (length {A = SurveyRow}) c.as_slice-row-items.ensures in
    named_all s c.args.name.now (λ id. ⊥) c.loop-row.row-index (omega (arith, size)) c.loop-row.invariant
