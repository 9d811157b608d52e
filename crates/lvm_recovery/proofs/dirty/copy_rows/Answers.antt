use Rattle.std.proofs.Common.{◌<◌, sym, subst, arith, All}
use Rattle.lvm_num.specs.declared.descriptor.LvRow.{LvRow}
use Rattle.lvm_num.specs.Descriptor.{IsLaidOut}
use Rattle.lvm_num.specs.Disks.{has}
use Rattle.lvm_recovery.specs.Plan.{copies_if_dirty}
use Rattle.lvm_recovery.proofs.JoiningLemmas.{no_part_made, next_part, stopped_part, part_ranges, part_apart, all_parts}
use Rattle.lvm_recovery.proofs.dirty.copy_rows.Goals as goal

pub loop-row-init : goal.loop-row-init
loop-row-init g c = record { so_far = no_part_made (copies_if_dirty c.args.mib c.args.table.now (has c.args.disks)) c.args.rows.now c.args.patience.now.left (g.S.Shelf.device c.args.shelf.now) c.args.buf c.requires.ready c.requires.full }

pub copy_if_dirty-requires-clause-ready : goal.copy_if_dirty-requires-clause-ready
copy_if_dirty-requires-clause-ready g c = c.loop-row.invariant.so_far.made.how.back.ready

pub copy_if_dirty-requires-clause-full : goal.copy_if_dirty-requires-clause-full
copy_if_dirty-requires-clause-full g c = c.loop-row.invariant.so_far.made.how.full

pub copy_if_dirty-requires-clause-laid_out : goal.copy_if_dirty-requires-clause-laid_out
copy_if_dirty-requires-clause-laid_out g c = subst IsLaidOut (sym c.row-item.is) (c.requires.laid_out c.loop-row.row-index c.row-item.result c.loop-row-test.true)

pub copy_if_dirty-requires-clause-places : goal.copy_if_dirty-requires-clause-places
copy_if_dirty-requires-clause-places g c = subst (λ (row : LvRow). All (λ p. p.disk < 128) row.map) (sym c.row-item.is) (c.requires.places c.loop-row.row-index c.row-item.result c.loop-row-test.true)

pub copy_if_dirty-requires-clause-ranges : goal.copy_if_dirty-requires-clause-ranges
copy_if_dirty-requires-clause-ranges g c =
    part_ranges (copies_if_dirty c.args.mib c.args.table.now (has c.args.disks)) c.args.rows.now c.loop-row.row-index c.row-item.result c.row-item.result c.loop-row-test.true c.row-item.is c.args.buf.number c.args.patience.now.left c.loop-row.patience.left
    (g.S.Shelf.device c.args.shelf.now) (g.S.Shelf.device c.loop-row.shelf) c.loop-row.buf c.loop-row.invariant.so_far c.requires.ranges

pub copy_if_dirty-requires-clause-apart : goal.copy_if_dirty-requires-clause-apart
copy_if_dirty-requires-clause-apart g c = part_apart (copies_if_dirty c.args.mib c.args.table.now (has c.args.disks)) c.args.rows.now c.loop-row.row-index c.row-item.result c.row-item.result c.loop-row-test.true c.row-item.is c.requires.apart

pub returns-in_default : goal.returns-in_default
returns-in_default g c = record {
  gives = stopped_part (copies_if_dirty c.args.mib c.args.table.now (has c.args.disks)) c.args.rows.now c.loop-row.row-index c.row-item.result c.row-item.result c.loop-row-test.true c.row-item.is c.requires.apart c.args.buf.number c.args.patience.now.left c.loop-row.patience.left c.copy_if_dirty.new.patience.left
      (g.S.Shelf.device c.args.shelf.now) (g.S.Shelf.device c.loop-row.shelf) (g.S.Shelf.device c.copy_if_dirty.new.shelf) c.loop-row.buf c.loop-row.invariant.so_far c.copy_if_dirty.result c.in_default.not-Ended c.copy_if_dirty.ensures.gives;
}

pub loop-row-preserved : goal.loop-row-preserved
loop-row-preserved g c = record {
  so_far = next_part (copies_if_dirty c.args.mib c.args.table.now (has c.args.disks)) c.args.rows.now c.loop-row.row-index c.row-item.result c.row-item.result c.loop-row-test.true c.row-item.is c.requires.apart c.args.buf.number c.args.patience.now.left c.loop-row.patience.left c.copy_if_dirty.new.patience.left
      (g.S.Shelf.device c.args.shelf.now) (g.S.Shelf.device c.loop-row.shelf) (g.S.Shelf.device c.copy_if_dirty.new.shelf) c.loop-row.buf c.loop-row.invariant.so_far c.in-Ended.back c.in-Ended.ensures.gives;
}

pub returns : goal.returns
returns g c = record {
  gives = all_parts (copies_if_dirty c.args.mib c.args.table.now (has c.args.disks)) c.args.rows.now c.args.buf.number c.args.patience.now.left c.loop-row.patience.left (g.S.Shelf.device c.args.shelf.now) (g.S.Shelf.device c.loop-row.shelf) c.loop-row.buf c.loop-row.row-index
      (let f = c.loop-row-test.false in omega (arith, f)) c.loop-row.invariant.so_far;
}
