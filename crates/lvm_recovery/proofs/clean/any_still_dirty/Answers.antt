use Rattle.std.proofs.Common.{false, sym, ap, subst, ◌∙◌, arith, All, ◌<◌}
use Rattle.lvm_num.specs.declared.descriptor.LvRow.{LvRow}
use Rattle.lvm_num.specs.Descriptor.{IsLaidOut}
use Rattle.lvm_num.specs.Disks.{has}
use Rattle.lvm_recovery.specs.Clean.{is_left}
use Rattle.lvm_recovery.proofs.CleanLemmas.{no_row_yet, row_found, no_row}
use Rattle.lvm_recovery.proofs.clean.any_still_dirty.Goals as goal

pub is_left-requires-clause-laid_out : goal.is_left-requires-clause-laid_out
is_left-requires-clause-laid_out c = subst IsLaidOut (sym c.row-item.is) (c.requires.laid_out c.loop-row.row-index c.row-item.result c.loop-row-test.true)

pub is_left-requires-clause-places : goal.is_left-requires-clause-places
is_left-requires-clause-places c = subst (λ (row : LvRow). All (λ p. p.disk < 128) row.map) (sym c.row-item.is) (c.requires.places c.loop-row.row-index c.row-item.result c.loop-row-test.true)

pub returns-then-is_left : goal.returns-then-is_left
returns-then-is_left c = sym (row_found c.args.table.now (has c.args.disks) c.args.number c.args.rows.now c.loop-row.row-index c.row-item.result c.loop-row-test.true
    (ap (is_left c.args.table.now (has c.args.disks) c.args.number) (sym c.row-item.is) ∙ sym c.is_left.ensures ∙ c.if-is_left.true))

pub loop-row-preserved : goal.loop-row-preserved
loop-row-preserved c = record {
  none = no_row_yet c.args.table.now (has c.args.disks) c.args.number c.args.rows.now c.loop-row.row-index c.row-item.result c.loop-row-test.true c.loop-row.invariant.none
      (ap (is_left c.args.table.now (has c.args.disks) c.args.number) (sym c.row-item.is) ∙ sym c.is_left.ensures ∙ c.if-is_left.false);
}

pub returns : goal.returns
returns c = sym (no_row c.args.table.now (has c.args.disks) c.args.number c.args.rows.now c.loop-row.row-index (let f = c.loop-row-test.false in omega (arith, f)) c.loop-row.invariant.none)
