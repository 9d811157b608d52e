use Rattle.std.proofs.Common.{◌≡◌, ℕ, length, None, sym, ap, subst, ◌∙◌, arith}
use Rattle.lvm_num.specs.Votes.{all_disks}
use Rattle.lvm_num.proofs.Lists.{none_there}
use Rattle.lvm_quorum.specs.passed.Transfer.{status_among}
use Rattle.lvm_quorum.specs.Reading.{under}
use Rattle.lvm_quorum.specs.declared.row.SurveyRow.{SurveyRow}
use Rattle.lvm_quorum.specs.Surveyed.{surveyed}
use Rattle.lvm_quorum.proofs.SurveyedLemmas.SurveyRows.{row_read}
use Rattle.lvm_quorum.proofs.GroupsLemmas.Naming.{one_id, named_more, named_all}
use Rattle.lvm_quorum.proofs.names.has_record.Goals as goal
use Rattle.lvm_quorum.proofs.names.has_record.Goals.{in-Some+else-has_status, in_default}

pub loop-row-preserved : goal.loop-row-preserved
loop-row-preserved c =
    let s = c.args.survey.now in
    let i = c.loop-row.row-index in
    let row = c.row-item.result in
    let at = row_read s c.as_slice-row-items.result.now i row c.as_slice-row-items.ensures (omega arith) c.row-item.is in
    named_more s c.args.name.now (λ id. status_among (surveyed s) all_disks id ≡ None) i row at c.loop-row.invariant
    (elim c.match-named_by.branch [
      | in-Some+else-has_status w ↦
          λ id named. subst (λ (n : ℕ). status_among (surveyed s) all_disks n ≡ None)
          (one_id (under row.descriptor row.descriptor_stamp) c.args.name.now w.in-Some.id id w.in-Some.ensures.some named)
          (none_there (status_among (surveyed s) all_disks w.in-Some.id) (sym w.has_status.ensures ∙ w.if-has_status.false))
      | in_default w ↦ λ id named. absurd (w.in_default.ensures.none id named)
    ])

pub returns-clause-no : goal.returns-clause-no
returns-clause-no c =
    let s = c.args.survey.now in
    let size : length c.as_slice-row-items.result.now ≡ length s.rows = ap (length {A = SurveyRow}) c.as_slice-row-items.ensures in
    λ is. named_all s c.args.name.now (λ id. status_among (surveyed s) all_disks id ≡ None) c.loop-row.row-index (omega (arith, size)) c.loop-row.invariant
