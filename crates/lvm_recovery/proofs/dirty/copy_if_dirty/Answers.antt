use Rattle.std.proofs.Common.{Bool, true, false, [], sym, ◌∙◌, subst, All}
use Rattle.std.specs.Prelude.{if◌then◌else◌}
use Rattle.lvm_num.specs.Disks.{has}
use Rattle.lvm_write.specs.declared.begin.Begun.TheVariants as begun
use Rattle.lvm_recovery.specs.Copying.{MayCopy, AreApart, AllGive}
use Rattle.lvm_recovery.specs.Plan.{copies_whole}
use Rattle.lvm_recovery.proofs.JoiningLemmas.{nothing_made}
use Rattle.lvm_recovery.proofs.dirty.copy_if_dirty.Goals as goal

pub returns-then-not-is_to_copy : goal.returns-then-not-is_to_copy
returns-then-not-is_to_copy g c = record {
  gives = subst (λ (t : Bool). AllGive (if t then copies_whole c.args.mib c.args.table.now (has c.args.disks) c.args.row.now else []) c.args.buf.number c.args.patience.now.left c.args.patience.now.left (g.S.Shelf.device c.args.shelf.now) (g.S.Shelf.device c.args.shelf.now) (begun.Ended c.args.buf))
      (sym c.if-not-is_to_copy.true ∙ c.is_to_copy.ensures)
      (nothing_made c.args.patience.now.left (g.S.Shelf.device c.args.shelf.now) c.args.buf c.requires.ready c.requires.full);
}

pub copy_volume-requires-clause-ranges : goal.copy_volume-requires-clause-ranges
copy_volume-requires-clause-ranges g c = subst (λ (t : Bool). All (MayCopy (g.S.Shelf.device c.args.shelf.now).sizes) (if t then copies_whole c.args.mib c.args.table.now (has c.args.disks) c.args.row.now else [])) (sym c.is_to_copy.ensures ∙ c.if-not-is_to_copy.false) c.requires.ranges

pub copy_volume-requires-clause-apart : goal.copy_volume-requires-clause-apart
copy_volume-requires-clause-apart g c = subst (λ (t : Bool). AreApart (if t then copies_whole c.args.mib c.args.table.now (has c.args.disks) c.args.row.now else [])) (sym c.is_to_copy.ensures ∙ c.if-not-is_to_copy.false) c.requires.apart

pub returns : goal.returns
returns g c = record {
  gives = subst (λ (t : Bool). AllGive (if t then copies_whole c.args.mib c.args.table.now (has c.args.disks) c.args.row.now else []) c.args.buf.number c.args.patience.now.left c.copy_volume.new.patience.left (g.S.Shelf.device c.args.shelf.now) (g.S.Shelf.device c.copy_volume.new.shelf) c.copy_volume.result)
      (sym c.if-not-is_to_copy.false ∙ c.is_to_copy.ensures) c.copy_volume.ensures.gives;
}
