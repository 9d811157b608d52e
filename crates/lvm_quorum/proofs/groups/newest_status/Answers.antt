use Rattle.std.proofs.Common.{◌≡◌, length, None, refl, sym, ap, ◌∙◌, arith}
use Rattle.std.specs.Prelude.{if◌then◌else◌}
use Rattle.lvm_num.specs.Disks.{has}
use Rattle.lvm_num.specs.Record.{newer, newest_below}
use Rattle.lvm_quorum.specs.passed.Transfer.{if_passes, is_status_of}
use Rattle.lvm_quorum.specs.declared.row.SurveyRow.{SurveyRow}
use Rattle.lvm_quorum.specs.Surveyed.{surveyed}
use Rattle.lvm_quorum.specs.Groups.{shown_record_if}
use Rattle.lvm_quorum.proofs.RecordLemmas.{newest_more, newer_none, picked, left_out}
use Rattle.lvm_quorum.proofs.SurveyedLemmas.SurveyRows.{row_read, status_shown}
use Rattle.lvm_quorum.proofs.groups.newest_status.Goals as goal
use Rattle.lvm_quorum.proofs.groups.newest_status.Goals.{then-has, else-has}

pub loop-row-init : goal.loop-row-init
unfolding newest_below
loop-row-init c = refl

pub has-requires : goal.has-requires
has-requires c =
    let s = c.args.survey.now in
    let i = c.loop-row.row-index in
    let size : length c.as_slice-row-items.result.now ≡ length s.rows = ap (length {A = SurveyRow}) c.as_slice-row-items.ensures in
    let at = row_read s c.as_slice-row-items.result.now i c.row-item.result c.as_slice-row-items.ensures (omega arith) c.row-item.is in
    let own : c.row-item.result.disk ≡ i = c.requires.own i c.row-item.result at in
    omega (arith, own, size, c.requires.few)

pub loop-row-preserved : goal.loop-row-preserved
loop-row-preserved c =
    let s = c.args.survey.now in
    let i = c.loop-row.row-index in
    let row = c.row-item.result in
    let at = row_read s c.as_slice-row-items.result.now i row c.as_slice-row-items.ensures (omega arith) c.row-item.is in
    let told : c.has.result ≡ has c.args.voters i = c.has.ensures.member ∙ ap (has c.args.voters) (c.requires.own i row at) in
    let now = shown_record_if c.loop-row.newest in
    let on = if_passes (is_status_of c.args.id) ((surveyed s).status i) in
    newest_more (λ d. if has c.args.voters d then if_passes (is_status_of c.args.id) ((surveyed s).status d) else None) i now (shown_record_if c.if-has.newest) c.loop-row.invariant
    (elim c.if-has.branch [
      | then-has w ↦
          ap shown_record_if w.newest-is ∙ w.newer-newest.ensures
          ∙ ap (newer now) (w.status_of.ensures ∙ ap (if_passes (is_status_of c.args.id)) (sym (status_shown s i row at)) ∙ sym (picked (has c.args.voters i) on None (sym told ∙ w.if-has.true)))
      | else-has w ↦
          ap shown_record_if w.newest-is ∙ sym (newer_none now)
          ∙ ap (newer now) (sym (left_out (has c.args.voters i) on None (sym told ∙ w.if-has.false)))
    ])
