use Rattle.std.proofs.Common.{◌*◌, List, sym, subst, filter, All}
use Rattle.lvm_num.specs.declared.place.Pp.{Pp}
use Rattle.lvm_num.specs.Disks.{has}
use Rattle.lvm_recovery.specs.Copying.{MayCopy, AreApart, AllGive}
use Rattle.lvm_recovery.specs.Plan.{usable_by, copies_from}
use Rattle.lvm_recovery.proofs.dirty.copy_group.Goals as goal

pub copy_block-requires-clause-ranges : goal.copy_block-requires-clause-ranges
copy_block-requires-clause-ranges g c = subst (λ (l : List Pp). All (MayCopy (g.S.Shelf.device c.args.shelf.now).sizes) (copies_from c.args.mib (c.args.g * 256) (filter (usable_by c.args.table.now (has c.args.disks)) l))) (sym c.pps_of-pps.ensures) c.requires.ranges

pub copy_block-requires-clause-apart : goal.copy_block-requires-clause-apart
copy_block-requires-clause-apart g c = subst (λ (l : List Pp). AreApart (copies_from c.args.mib (c.args.g * 256) (filter (usable_by c.args.table.now (has c.args.disks)) l))) (sym c.pps_of-pps.ensures) c.requires.apart

pub returns : goal.returns
returns g c = record {
  gives = subst (λ (l : List Pp). AllGive (copies_from c.args.mib (c.args.g * 256) (filter (usable_by c.args.table.now (has c.args.disks)) l)) c.args.buf.number c.args.patience.now.left c.copy_block.new.patience.left (g.S.Shelf.device c.args.shelf.now) (g.S.Shelf.device c.copy_block.new.shelf) c.copy_block.result)
      c.pps_of-pps.ensures c.copy_block.ensures.gives;
}
