use Rattle.std.proofs.Common.{false, refl, ap, subst}
use Rattle.lvm_volume_lines.specs.passed.HolderVariants as holder
use Rattle.lvm_volume_lines.specs.passed.RefusalVariants as refusal
use Rattle.lvm_volume_lines.specs.passed.ReplyVariants as reply
use Rattle.lvm_volume_lines.specs.passed.GroupLines.{ComesTo, Holder, IsOfKind, session_of}
use Rattle.lvm_volume_lines.proofs.passed.RangeLines.{between_now, ends_with, fits_now, none_named, refused_as}
use Rattle.lvm_volume_lines.specs.Resyncing.{NoGroupForSync, NoVolumeForSync, SyncVolumeDoes}
use Rattle.lvm_volume_lines.proofs.resync.do_sync_volume.Goals as goal

pub returns-in-Off : goal.returns-in-Off
returns-in-Off g c = λ stage its.
    refused_as g.S.Shelf.device (λ log. SyncVolumeDoes c.args.name) c.args.stage.now c.requires.fits c.requires.between (holder.Off c.in-Off.shelf c.in-Off.history) c.in-Off.is stage (reply.Refused refusal.NoGroup)
    (subst (λ (h : Holder g.row.S.Denot). ComesTo g.S.Shelf.device false h c.args.stage.now.posts c.args.stage.now.bytes stage) c.in-Off.is its.comes)
    refusal.NoGroup refl (λ last refused. NoGroupForSync (ap session_of c.in-Off.is) refused)

pub returns-in-Empty : goal.returns-in-Empty
returns-in-Empty g c = λ stage its.
    refused_as g.S.Shelf.device (λ log. SyncVolumeDoes c.args.name) c.args.stage.now c.requires.fits c.requires.between (holder.Empty c.in-Empty.driver) c.in-Empty.is stage (reply.Refused refusal.NoVolume)
    (subst (λ (h : Holder g.row.S.Denot). ComesTo g.S.Shelf.device false h c.args.stage.now.posts c.args.stage.now.bytes stage) c.in-Empty.is its.comes)
    refusal.NoVolume refl
    (λ last refused. NoVolumeForSync c.in-Empty.driver.1 (ap session_of c.in-Empty.is) (none_named c.in-Empty.driver.1.descriptor.lvs c.args.name (subst IsOfKind c.in-Empty.is c.requires.fits.kind)) refused)

pub sync_volume_on-requires-clause-on : goal.sync_volume_on-requires-clause-on
sync_volume_on-requires-clause-on g c = (between_now g.S.Shelf.device (λ log. SyncVolumeDoes c.args.name) c.args.stage.now c.requires.fits c.requires.between (holder.Serving c.in-Serving.driver) c.in-Serving.is).session.power

pub sync_volume_on-requires-clause-shut : goal.sync_volume_on-requires-clause-shut
sync_volume_on-requires-clause-shut g c = (between_now g.S.Shelf.device (λ log. SyncVolumeDoes c.args.name) c.args.stage.now c.requires.fits c.requires.between (holder.Serving c.in-Serving.driver) c.in-Serving.is).session.copy

pub returns-in-Serving : goal.returns-in-Serving
returns-in-Serving g c = λ stage its.
    let fits = fits_now g.S.Shelf.device (λ log. SyncVolumeDoes c.args.name) c.args.stage.now c.requires.fits c.requires.between (holder.Serving c.in-Serving.driver) c.in-Serving.is in
    let between = between_now g.S.Shelf.device (λ log. SyncVolumeDoes c.args.name) c.args.stage.now c.requires.fits c.requires.between (holder.Serving c.in-Serving.driver) c.in-Serving.is in
    ends_with g.S.Shelf.device (λ log. SyncVolumeDoes c.args.name) c.args.stage.now c.requires.fits c.requires.between (holder.Serving c.in-Serving.driver) c.in-Serving.is stage c.sync_volume_on.result
    (c.sync_volume_on.ensures c.args.stage.now.bytes c.args.stage.now.posts fits between stage its)
