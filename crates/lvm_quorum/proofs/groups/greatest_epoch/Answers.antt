use Rattle.std.proofs.Common.{◌≡◌, max, length, sym, ap, ◌∙◌, arith}
use Rattle.lvm_quorum.specs.passed.Transfer.{if_passes, is_of, is_status_of}
use Rattle.lvm_quorum.specs.declared.row.SurveyRow.{SurveyRow}
use Rattle.lvm_quorum.specs.Surveyed.{surveyed}
use Rattle.lvm_quorum.specs.Groups.{epoch_of, epoch_on}
use Rattle.lvm_quorum.proofs.GroupsLemmas.Epochs.{greatest_none, greatest_more, greatest_all}
use Rattle.lvm_quorum.proofs.SurveyedLemmas.SurveyRows.{row_read, descriptor_shown, status_shown}
use Rattle.lvm_quorum.proofs.groups.greatest_epoch.Goals as goal

pub loop-row-init : goal.loop-row-init
loop-row-init c = greatest_none (epoch_on (surveyed c.args.survey.now) c.args.id)

pub loop-row-preserved : goal.loop-row-preserved
loop-row-preserved c =
    let s = c.args.survey.now in
    let i = c.loop-row.row-index in
    let row = c.row-item.result in
    let at = row_read s c.as_slice-row-items.result.now i row c.as_slice-row-items.ensures (omega arith) c.row-item.is in
    let descriptor : c.epoch_of.result ≡ epoch_of (if_passes (is_of c.args.id) ((surveyed s).descriptor i)) =
    c.epoch_of.ensures ∙ ap epoch_of (c.descriptor_of.ensures ∙ ap (if_passes (is_of c.args.id)) (sym (descriptor_shown s i row at))) in
    let status : c.epoch_of-in-loop-row.result ≡ epoch_of (if_passes (is_status_of c.args.id) ((surveyed s).status i)) =
    c.epoch_of-in-loop-row.ensures ∙ ap epoch_of (c.status_of.ensures ∙ ap (if_passes (is_status_of c.args.id)) (sym (status_shown s i row at))) in
    greatest_more (epoch_on (surveyed s) c.args.id) i c.loop-row.epoch c.max-epoch.result c.loop-row.invariant
    (c.max-epoch.ensures ∙ ap (max c.loop-row.epoch) (c.max-shown.ensures ∙ (λ t. max (descriptor t) (status t))))

pub returns : goal.returns
returns c =
    let s = c.args.survey.now in
    let size : length c.as_slice-row-items.result.now ≡ length s.rows = ap (length {A = SurveyRow}) c.as_slice-row-items.ensures in
    greatest_all s c.args.id c.loop-row.row-index c.loop-row.epoch (omega (arith, size)) c.loop-row.invariant
