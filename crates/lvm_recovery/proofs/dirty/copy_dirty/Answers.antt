use Rattle.std.proofs.Common.{◌<◌, List, flat_map, sym, subst, All}
use Rattle.lvm_num.specs.declared.descriptor.LvRow.{LvRow}
use Rattle.lvm_num.specs.Disks.{has}
use Rattle.lvm_num.specs.Descriptor.{IsLaidOut}
use Rattle.lvm_recovery.specs.Copying.{MayCopy, AreApart, AllGive}
use Rattle.lvm_recovery.specs.Plan.{copies_if_dirty}
use Rattle.lvm_recovery.proofs.RowsLemmas.{rows_laid_out, rows_places}
use Rattle.lvm_recovery.proofs.dirty.copy_dirty.Goals as goal

pub copy_rows-requires-clause-laid_out : goal.copy_rows-requires-clause-laid_out
copy_rows-requires-clause-laid_out g c = subst (λ (l : List LvRow). All IsLaidOut l) (sym c.as_slice.ensures) (rows_laid_out c.args.group.now c.requires.valid)

pub copy_rows-requires-clause-places : goal.copy_rows-requires-clause-places
copy_rows-requires-clause-places g c = subst (λ (l : List LvRow). All (λ row. All (λ p. p.disk < 128) row.map) l) (sym c.as_slice.ensures) (rows_places c.args.group.now c.requires.valid)

pub copy_rows-requires-clause-ranges : goal.copy_rows-requires-clause-ranges
copy_rows-requires-clause-ranges g c = subst (λ (l : List LvRow). All (MayCopy (g.S.Shelf.device c.args.shelf.now).sizes) (flat_map (copies_if_dirty c.args.group.now.mib c.args.table.now (has c.args.disks)) l)) (sym c.as_slice.ensures) c.requires.ranges

pub copy_rows-requires-clause-apart : goal.copy_rows-requires-clause-apart
copy_rows-requires-clause-apart g c = subst (λ (l : List LvRow). AreApart (flat_map (copies_if_dirty c.args.group.now.mib c.args.table.now (has c.args.disks)) l)) (sym c.as_slice.ensures) c.requires.apart

pub returns : goal.returns
returns g c = record {
  gives = subst (λ (l : List LvRow). AllGive (flat_map (copies_if_dirty c.args.group.now.mib c.args.table.now (has c.args.disks)) l) c.args.buf.number c.args.patience.now.left c.copy_rows.new.patience.left (g.S.Shelf.device c.args.shelf.now) (g.S.Shelf.device c.copy_rows.new.shelf) c.copy_rows.result)
      c.as_slice.ensures c.copy_rows.ensures.gives;
}
