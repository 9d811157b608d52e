use Rattle.std.proofs.Common.{◌≡◌, length, ap, arith}
use Rattle.lvm_quorum.specs.declared.row.SurveyRow.{SurveyRow}
use Rattle.lvm_quorum.proofs.SurveyedLemmas.SurveyRows.{row_read}
use Rattle.lvm_group.proofs.JudgedLemmas.{last_more, last_all, last_shown}
use Rattle.lvm_group.proofs.judge.last_shown.Goals as goal

pub loop-row-preserved : goal.loop-row-preserved
loop-row-preserved c =
    let s = c.args.survey.now in
    let i = c.loop-row.row-index in
    let row = c.row-item.result in
    let at = row_read s c.as_slice-row-items.result.now i row c.as_slice-row-items.ensures (omega arith) c.row-item.is in
    last_more s i c.loop-row.last c.last_of.result c.max-last.result row at c.loop-row.invariant c.last_of.ensures c.max-last.ensures

pub returns-clause-all : goal.returns-clause-all
returns-clause-all c =
    let s = c.args.survey.now in
    let size : length c.as_slice-row-items.result.now ≡ length s.rows = ap (length {A = SurveyRow}) c.as_slice-row-items.ensures in
    last_all s c.loop-row.row-index c.loop-row.last (omega (arith, size)) c.loop-row.invariant

pub returns-clause-one : goal.returns-clause-one
returns-clause-one c = last_shown c.args.survey.now c.loop-row.row-index c.loop-row.last c.loop-row.invariant
