use Rattle.std.proofs.Common.{◌++◌, All, List, ℕ, subst, sym}
use Rattle.lvm_num.specs.Disks.{has}
use Rattle.lvm_num.proofs.AmongLemmas.{one_of_left, one_of_right}
use Rattle.lvm_recovery.specs.declared.copying.Recopy.{Recopy}
use Rattle.lvm_recovery.specs.Copying.{MayCopy}
use Rattle.lvm_recovery.specs.Plan.{copies_dirty}
use Rattle.lvm_recovery.proofs.JoiningLemmas.{all_less, apart_less, copies_go_on, stops_early}
use Rattle.lvm_recovery.proofs.equal.copy_planned.Goals as goal

pub copy_all-copied-requires-clause-ranges : goal.copy_all-copied-requires-clause-ranges
copy_all-copied-requires-clause-ranges g c =
    let ys : List Recopy = copies_dirty c.args.group.now c.args.table.now (has c.args.disks) in
    all_less (MayCopy (g.S.Shelf.device c.args.shelf.now).sizes) (c.args.copies.now ++ ys) c.args.copies.now (λ one among. one_of_left c.args.copies.now ys one among) c.requires.ranges

pub copy_all-copied-requires-clause-apart : goal.copy_all-copied-requires-clause-apart
copy_all-copied-requires-clause-apart g c =
    let ys : List Recopy = copies_dirty c.args.group.now c.args.table.now (has c.args.disks) in
    apart_less (c.args.copies.now ++ ys) c.args.copies.now (λ one among. one_of_left c.args.copies.now ys one among) c.requires.apart

pub returns-in_default : goal.returns-in_default
returns-in_default g c = record {
  gives = stops_early c.args.copies.now (copies_dirty c.args.group.now c.args.table.now (has c.args.disks)) c.args.buf.number c.args.patience.now.left c.copy_all-copied.new.patience.left
      (g.S.Shelf.device c.args.shelf.now) (g.S.Shelf.device c.copy_all-copied.new.shelf) c.copy_all-copied.result c.in_default.not-Ended c.copy_all-copied.ensures.gives;
}

pub copy_dirty-requires-clause-ready : goal.copy_dirty-requires-clause-ready
copy_dirty-requires-clause-ready g c = c.in-Ended.ensures.gives.how.back.ready

pub copy_dirty-requires-clause-full : goal.copy_dirty-requires-clause-full
copy_dirty-requires-clause-full g c = c.in-Ended.ensures.gives.how.full

pub copy_dirty-requires-clause-ranges : goal.copy_dirty-requires-clause-ranges
copy_dirty-requires-clause-ranges g c =
    let ys : List Recopy = copies_dirty c.args.group.now c.args.table.now (has c.args.disks) in
    subst (λ (sizes : List ℕ). All (MayCopy sizes) ys) (sym c.in-Ended.ensures.gives.does.keeps.sizes)
    (all_less (MayCopy (g.S.Shelf.device c.args.shelf.now).sizes) (c.args.copies.now ++ ys) ys (λ one among. one_of_right c.args.copies.now ys one among) c.requires.ranges)

pub copy_dirty-requires-clause-apart : goal.copy_dirty-requires-clause-apart
copy_dirty-requires-clause-apart g c =
    let ys : List Recopy = copies_dirty c.args.group.now c.args.table.now (has c.args.disks) in
    apart_less (c.args.copies.now ++ ys) ys (λ one among. one_of_right c.args.copies.now ys one among) c.requires.apart

pub returns : goal.returns
returns g c = record {
  gives = copies_go_on c.args.copies.now (copies_dirty c.args.group.now c.args.table.now (has c.args.disks)) c.args.buf.number c.args.patience.now.left c.copy_all-copied.new.patience.left c.copy_dirty.new.patience.left
      (g.S.Shelf.device c.args.shelf.now) (g.S.Shelf.device c.copy_all-copied.new.shelf) (g.S.Shelf.device c.copy_dirty.new.shelf) c.in-Ended.buf c.copy_dirty.result c.requires.apart c.in-Ended.ensures.gives c.copy_dirty.ensures.gives;
}
