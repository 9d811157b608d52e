use Rattle.std.proofs.Common.{◌≡◌, length, refl, sym, ap, ◌∙◌, arith}
use Rattle.lvm_num.specs.Record.{newer, newest_below}
use Rattle.lvm_quorum.specs.passed.Transfer.{descriptor_among, if_passes, is_of}
use Rattle.lvm_quorum.specs.declared.row.SurveyRow.{SurveyRow}
use Rattle.lvm_quorum.specs.Surveyed.{surveyed}
use Rattle.lvm_quorum.specs.Groups.{shown_record_if}
use Rattle.lvm_quorum.proofs.RecordLemmas.{newest_more}
use Rattle.lvm_quorum.proofs.SurveyedLemmas.SurveyRows.{row_read, descriptor_shown}
use Rattle.lvm_quorum.proofs.groups.newest_descriptor.Goals as goal

pub loop-row-init : goal.loop-row-init
unfolding newest_below
loop-row-init c = refl

pub loop-row-preserved : goal.loop-row-preserved
loop-row-preserved c =
    let s = c.args.survey.now in
    let i = c.loop-row.row-index in
    let row = c.row-item.result in
    let at = row_read s c.as_slice-row-items.result.now i row c.as_slice-row-items.ensures (omega arith) c.row-item.is in
    newest_more (λ d. if_passes (is_of c.args.id) ((surveyed s).descriptor d)) i (shown_record_if c.loop-row.newest) (shown_record_if c.newer-newest.result) c.loop-row.invariant
    (c.newer-newest.ensures ∙ ap (newer (shown_record_if c.loop-row.newest)) (c.descriptor_of.ensures ∙ ap (if_passes (is_of c.args.id)) (sym (descriptor_shown s i row at))))

pub returns : goal.returns
unfolding descriptor_among
returns c =
    let s = c.args.survey.now in
    let size : length c.as_slice-row-items.result.now ≡ length s.rows = ap (length {A = SurveyRow}) c.as_slice-row-items.ensures in
    let all : c.loop-row.row-index ≡ length s.rows = omega (arith, size) in
    c.loop-row.invariant ∙ ap (newest_below (λ d. if_passes (is_of c.args.id) ((surveyed s).descriptor d))) all
