use Rattle.std.proofs.Common.{◌≡◌, refl, arith}
use Rattle.lvm_vol.specs.Log.{spare_entries}
use Rattle.lvm_core.specs.declared.refused.Cause.TheVariants as cause
use Rattle.lvm_quiesce.specs.Groups.{RefusedAtOnce}
use Rattle.lvm_quiesce.proofs.GroupsLemmas.{none_brings, stayed_out, varied}
use Rattle.lvm_quiesce.proofs.groups.varyon.Goals as goal

pub returns-then-spare_entries-eq0 : goal.returns-then-spare_entries-eq0
returns-then-spare_entries-eq0 g c =
    let is = c.spare_entries.ensures.spare in
    let none = c.if-spare_entries-eq0.true in
    let full : spare_entries c.args.history ≡ 0 = omega (arith, is, none) in
    record {
      gives = RefusedAtOnce _ refl (refl, full) refl refl;
      starts = tt;
      causes = tt;
      leaves = none_brings c.args.history.run c.args.moment c.args.patience.now.left (g.S.Shelf.device c.args.shelf) c.args.history (g.met.S.Shelf.sectors_are_whole c.args.shelf) c.ranges.moment.fits;
    }

pub returns-in-Ok : goal.returns-in-Ok
returns-in-Ok g c =
    let is = c.spare_entries.ensures.spare in
    let some = c.if-spare_entries-eq0.false in
    let rests = c.in-Ok.ensures in
    let its = varied g.S.Shelf.device c.args.shelf c.args.history c.args.moment c.args.patience.now.left c.varyon.new.patience.left c.args.name c.args.room c.come_to_rest.new.patience.left c.in-Ok.shelf c.in-Ok.history c.varyon.result c.varyon.ensures.faults (omega (arith, is, some))
    rests.0 rests.1 rests.2 c.varyon.ensures.gives c.varyon.ensures.starts c.varyon.ensures.leaves in
    record { gives = its.gives; starts = its.starts; causes = its.causes; leaves = its.leaves }

pub returns-in-Err : goal.returns-in-Err
returns-in-Err g c =
    let is = c.spare_entries.ensures.spare in
    let some = c.if-spare_entries-eq0.false in
    let out = c.in-Err.ensures in
    let its = stayed_out g.S.Shelf.device c.args.shelf c.args.history c.args.moment c.args.patience.now.left c.come_to_rest.new.patience.left _ _ _ c.in-Err.refused (g.met.S.Shelf.sectors_are_whole c.in-Err.refused.shelf) c.ranges.moment.fits (omega (arith, is, some)) out.0 out.1 in
    record { gives = its.gives; starts = tt; causes = its.causes; leaves = its.leaves }
