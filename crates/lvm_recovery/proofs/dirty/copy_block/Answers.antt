use Rattle.std.proofs.Common.{◌≡◌, List, sym, ap, ◌∙◌, subst, All}
use Rattle.lvm_num.specs.declared.place.Pp.{Pp}
use Rattle.lvm_num.specs.Disks.{has}
use Rattle.lvm_num.proofs.Lists.{index_is}
use Rattle.lvm_map.specs.Places.{place_on}
use Rattle.lvm_write.specs.declared.begin.Begun.TheVariants as begun
use Rattle.lvm_recovery.specs.declared.copying.Recopy.{Recopy}
use Rattle.lvm_recovery.specs.Copying.{MayCopy, AreApart, AllGive}
use Rattle.lvm_recovery.specs.Plan.{copies_from}
use Rattle.lvm_recovery.proofs.JoiningLemmas.{nothing_made}
use Rattle.lvm_recovery.proofs.RowsLemmas.{rest_is}
use Rattle.lvm_recovery.proofs.dirty.copy_block.Goals as goal

pub copy_rest-requires-clause-ranges : goal.copy_rest-requires-clause-ranges
copy_rest-requires-clause-ranges g c =
    let from_is : c.place_on-from.result ≡ place_on c.args.mib c.in-Some.ensures.first c.args.block = c.place_on-from.ensures ∙ ap (λ (q : Pp). place_on c.args.mib q c.args.block) (index_is c.args.pps.now c.in-Some.at c.in-Some.ensures.first _ c.in-Some.ensures.at) in
    subst (λ (l : List Recopy). All (MayCopy (g.S.Shelf.device c.args.shelf.now).sizes) l) (rest_is c.args.mib c.args.block c.args.table.now (has c.args.disks) c.args.pps.now c.in-Some.at c.place_on-from.result c.in-Some.ensures from_is) c.requires.ranges

pub copy_rest-requires-clause-apart : goal.copy_rest-requires-clause-apart
copy_rest-requires-clause-apart g c =
    let from_is : c.place_on-from.result ≡ place_on c.args.mib c.in-Some.ensures.first c.args.block = c.place_on-from.ensures ∙ ap (λ (q : Pp). place_on c.args.mib q c.args.block) (index_is c.args.pps.now c.in-Some.at c.in-Some.ensures.first _ c.in-Some.ensures.at) in
    subst AreApart (rest_is c.args.mib c.args.block c.args.table.now (has c.args.disks) c.args.pps.now c.in-Some.at c.place_on-from.result c.in-Some.ensures from_is) c.requires.apart

pub returns-in_default : goal.returns-in_default
returns-in_default g c = record {
  gives = subst (λ l. AllGive (copies_from c.args.mib c.args.block l) c.args.buf.number c.args.patience.now.left c.args.patience.now.left (g.S.Shelf.device c.args.shelf.now) (g.S.Shelf.device c.args.shelf.now) (begun.Ended c.args.buf)) (sym c.in_default.ensures)
      (nothing_made c.args.patience.now.left (g.S.Shelf.device c.args.shelf.now) c.args.buf c.requires.ready c.requires.full);
}

pub returns : goal.returns
returns g c =
    let from_is : c.place_on-from.result ≡ place_on c.args.mib c.in-Some.ensures.first c.args.block = c.place_on-from.ensures ∙ ap (λ (q : Pp). place_on c.args.mib q c.args.block) (index_is c.args.pps.now c.in-Some.at c.in-Some.ensures.first _ c.in-Some.ensures.at) in
    record {
      gives = subst (λ (l : List Recopy). AllGive l c.args.buf.number c.args.patience.now.left c.copy_rest.new.patience.left (g.S.Shelf.device c.args.shelf.now) (g.S.Shelf.device c.copy_rest.new.shelf) c.copy_rest.result)
          (sym (rest_is c.args.mib c.args.block c.args.table.now (has c.args.disks) c.args.pps.now c.in-Some.at c.place_on-from.result c.in-Some.ensures from_is)) c.copy_rest.ensures.gives;
    }
