use Rattle.std.proofs.Common.{◌+◌, List, sym, subst, arith}
use Rattle.std.proofs.lemmas.Result.{err_from_is_err_and}
use Rattle.lvm_quorum.specs.declared.row.SurveyRow.{SurveyRow}
use Rattle.lvm_quorum.proofs.ReadingLemmas.{Rows, no_rows, rows_only, rows_small, rows_more, rows_stop}
use Rattle.lvm_quorum.proofs.survey.survey_rows.Goals as goal

pub loop-disk-init : goal.loop-disk-init
loop-disk-init g c =
    let a = c.args.patience.now.left in
    let n = c.args.buf.number in
    let old = (g.S.Shelf.device c.args.shelf.now) in
    subst (λ (l : List SurveyRow). Rows 0 a a n old old l n) (sym c.new-rows.ensures.items) (no_rows a n old c.requires.ready)

pub loop-disk-preserved : goal.loop-disk-preserved
loop-disk-preserved g c =
    let added = c.in_ok-back.ensures.gives in
    subst (λ (l : List SurveyRow). Rows (c.loop-disk.disk + 1) c.args.patience.now.left c.add_row.new.patience.left c.args.buf.number (g.S.Shelf.device c.args.shelf.now) (g.S.Shelf.device c.add_row.new.shelf) l c.in_ok-back.back.number) (sym added.1.2)
    (rows_more c.loop-disk.disk c.args.patience.now.left c.loop-disk.patience.left c.add_row.new.patience.left c.args.buf.number (g.S.Shelf.device c.args.shelf.now) (g.S.Shelf.device c.loop-disk.shelf) (g.S.Shelf.device c.add_row.new.shelf) c.loop-disk.rows.items c.loop-disk.back.number c.loop-disk.invariant c.in_ok-back.ensures.only c.in_ok-back.ensures.elsewhere added.1.0 c.in_ok-back.back.number added.0 added.1.1 added.2)

pub returns-in_err-back-clause-only : goal.returns-in_err-back-clause-only
returns-in_err-back-clause-only g c = rows_only c.loop-disk.disk c.args.patience.now.left c.loop-disk.patience.left c.add_row.new.patience.left c.args.buf.number (g.S.Shelf.device c.args.shelf.now) (g.S.Shelf.device c.loop-disk.shelf) (g.S.Shelf.device c.add_row.new.shelf) c.loop-disk.rows.items c.loop-disk.back.number c.loop-disk.invariant c.in_err-back.ensures.only c.in_err-back.ensures.elsewhere

pub returns-in_err-back-clause-small : goal.returns-in_err-back-clause-small
returns-in_err-back-clause-small g c = rows_small c.loop-disk.disk c.args.patience.now.left c.loop-disk.patience.left c.add_row.new.patience.left c.args.buf.number (g.S.Shelf.device c.args.shelf.now) (g.S.Shelf.device c.loop-disk.shelf) (g.S.Shelf.device c.add_row.new.shelf) c.loop-disk.rows.items c.loop-disk.back.number c.loop-disk.invariant c.in_err-back.ensures.only c.in_err-back.ensures.elsewhere

pub returns-in_err-back-clause-gives : goal.returns-in_err-back-clause-gives
returns-in_err-back-clause-gives g c =
    let p = err_from_is_err_and c.from_residual.result c.from_residual.ensures.1 in
    rw (p.1, p.2) (rows_stop c.loop-disk.disk c.args.patience.now.left c.loop-disk.patience.left c.add_row.new.patience.left c.args.buf.number (g.S.Shelf.device c.args.shelf.now) (g.S.Shelf.device c.loop-disk.shelf) (g.S.Shelf.device c.add_row.new.shelf) c.loop-disk.rows.items c.loop-disk.back.number c.loop-disk.invariant c.in_err-back.field-0.0 c.in_err-back.ensures.gives)

pub returns-clause-gives : goal.returns-clause-gives
returns-clause-gives g c =
    let so_far = c.loop-disk.invariant in
    (so_far.rested, record { all = omega (arith, so_far.count, c.disks-disk-end.ensures.number); few = omega (arith, so_far.count, c.disks-disk-end.ensures.some); each = so_far.each }, so_far.back_is)
