use Rattle.std.proofs.Common.{◌≡◌, length, ap, ◌∙◌, arith}
use Rattle.lvm_quorum.specs.declared.row.SurveyRow.{SurveyRow}
use Rattle.lvm_quorum.specs.Reading.{under}
use Rattle.lvm_quorum.proofs.SurveyedLemmas.SurveyRows.{row_read}
use Rattle.lvm_quorum.proofs.GroupsLemmas.Naming.{one_id, named_more, named_all}
use Rattle.lvm_quorum.proofs.names.other_named.Goals as goal
use Rattle.lvm_quorum.proofs.names.other_named.Goals.{in-Some+else-other-id, in_default}

pub loop-row-preserved : goal.loop-row-preserved
loop-row-preserved c =
    let s = c.args.survey.now in
    let i = c.loop-row.row-index in
    let row = c.row-item.result in
    let at = row_read s c.as_slice-row-items.result.now i row c.as_slice-row-items.ensures (omega arith) c.row-item.is in
    named_more s c.args.name.now (λ id. id ≡ c.args.id) i row at c.loop-row.invariant
    (elim c.match-named_by.branch [
      | in-Some+else-other-id w ↦ λ id named. one_id (under row.descriptor row.descriptor_stamp) c.args.name.now id w.in-Some.other named w.in-Some.ensures.some ∙ w.if-other-id.false
      | in_default w ↦ λ id named. absurd (w.in_default.ensures.none id named)
    ])

pub returns-clause-none : goal.returns-clause-none
returns-clause-none c =
    let s = c.args.survey.now in
    let size : length c.as_slice-row-items.result.now ≡ length s.rows = ap (length {A = SurveyRow}) c.as_slice-row-items.ensures in
    named_all s c.args.name.now (λ id. id ≡ c.args.id) c.loop-row.row-index (omega (arith, size)) c.loop-row.invariant
