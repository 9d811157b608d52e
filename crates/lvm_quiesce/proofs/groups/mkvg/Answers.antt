use Rattle.std.proofs.Common.{ℕ, refl, sym, subst}
use Rattle.lvm_vol.specs.Log.{Log, spare_entries}
use Rattle.lvm_core.specs.Sound.{HaveAllLanded}
use Rattle.lvm_group.specs.NewGroup.{NewGroup, MayMakeGroup, RefusesFirst}
use Rattle.lvm_quiesce.specs.Groups.{RefusedAtOnce}
use Rattle.lvm_quiesce.proofs.GroupsLemmas.{none_brings, first_rose, stayed_out, made}
use Rattle.lvm_quiesce.proofs.groups.mkvg.Goals as goal

pub mkvg-requires-clause-landed : goal.mkvg-requires-clause-landed
mkvg-requires-clause-landed g c = subst (λ (l : Log). HaveAllLanded l.facts) (sym c.in-Ok.ensures.2) c.requires.landed

pub returns-in-Err : goal.returns-in-Err
returns-in-Err g c =
    let device = g.S.Shelf.device c.args.shelf in
    let w : NewGroup = record { name = c.args.name; mib = c.args.mib; disks = c.args.disks.now; force = c.args.force; moment = c.args.moment } in
    let refuses : RefusesFirst device.sizes (spare_entries c.args.history) c.args.disks.now c.args.mib c.in-Err.cause =
    subst (λ (n : ℕ). RefusesFirst device.sizes n c.args.disks.now c.args.mib c.in-Err.cause) c.spare_entries.ensures.spare c.in-Err.ensures.refused in
    record {
      gives = RefusedAtOnce _ refl refuses refl refl;
      starts = tt;
      causes = first_rose device.sizes (spare_entries c.args.history) w c.args.patience.now.left device.counts c.in-Err.cause refuses;
      leaves = none_brings c.args.history.run c.args.moment c.args.patience.now.left device c.args.history (g.met.S.Shelf.sectors_are_whole c.args.shelf) c.ranges.moment.fits;
    }

pub returns-in-Ok : goal.returns-in-Ok
returns-in-Ok g c =
    let w : NewGroup = record { name = c.args.name; mib = c.args.mib; disks = c.args.disks.now; force = c.args.force; moment = c.args.moment } in
    let may : MayMakeGroup (g.S.Shelf.device c.args.shelf).sizes (spare_entries c.args.history) c.args.disks.now c.args.mib =
    subst (λ (n : ℕ). MayMakeGroup (g.S.Shelf.device c.args.shelf).sizes n c.args.disks.now c.args.mib) c.spare_entries.ensures.spare c.in_default.ensures.may in
    let rests = c.in-Ok.ensures in
    let its = made g.S.Shelf.device c.args.shelf c.args.history c.args.moment c.args.patience.now.left c.mkvg.new.patience.left w c.args.room c.come_to_rest.new.patience.left c.in-Ok.shelf c.in-Ok.history c.mkvg.result c.mkvg.ensures.faults may
    rests.0 rests.1 rests.2 c.mkvg.ensures.gives c.mkvg.ensures.starts c.mkvg.ensures.leaves in
    record { gives = its.gives; starts = its.starts; causes = its.causes; leaves = its.leaves }

pub returns-in-Err-come_to_rest : goal.returns-in-Err-come_to_rest
returns-in-Err-come_to_rest g c =
    let may : MayMakeGroup (g.S.Shelf.device c.args.shelf).sizes (spare_entries c.args.history) c.args.disks.now c.args.mib =
    subst (λ (n : ℕ). MayMakeGroup (g.S.Shelf.device c.args.shelf).sizes n c.args.disks.now c.args.mib) c.spare_entries.ensures.spare c.in_default.ensures.may in
    let out = c.in-Err-come_to_rest.ensures in
    let its = stayed_out g.S.Shelf.device c.args.shelf c.args.history c.args.moment c.args.patience.now.left c.come_to_rest.new.patience.left _ _ _ c.in-Err-come_to_rest.refused (g.met.S.Shelf.sectors_are_whole c.in-Err-come_to_rest.refused.shelf) c.ranges.moment.fits may out.0 out.1 in
    record { gives = its.gives; starts = tt; causes = its.causes; leaves = its.leaves }
