use Rattle.std.proofs.Common.{refl, subst}
use Rattle.lvm_num.specs.declared.descriptor.Descriptor.{Descriptor}
use Rattle.lvm_core.specs.Looking.{HasNoVolumeNamed}
use Rattle.lvm_volume_lines.specs.passed.HolderVariants as holder
use Rattle.lvm_volume_lines.specs.passed.RangeLines.{serving}
use Rattle.lvm_volume_lines.specs.passed.RefusalVariants as refusal
use Rattle.lvm_volume_lines.specs.passed.ReplyVariants as reply
use Rattle.lvm_volume_lines.proofs.passed.GroupLines.{left_still}
use Rattle.lvm_volume_lines.proofs.passed.RangeLines.{refused_as}
use Rattle.lvm_volume_lines.specs.Resyncing.{NoVolumeForSync, SyncVolumeDoes}
use Rattle.lvm_volume_lines.proofs.resync.sync_volume_on.Goals as goal

pub returns-in-None : goal.returns-in-None
returns-in-None g c = λ bytes posts fits between stage its.
    let device = g.S.Shelf.device in
    let first = c.args.driver.now in
    refused_as device (λ log. SyncVolumeDoes c.args.name) (serving first posts bytes) fits between (holder.Serving first) refl stage (reply.Refused refusal.NoVolume)
    (left_still device (serving first posts bytes) (reply.Refused refusal.NoVolume) refl between stage its) refusal.NoVolume refl
    (λ last is. NoVolumeForSync first.1 refl (subst (λ (d : Descriptor). HasNoVolumeNamed d.lvs c.args.name) c.descriptor.ensures.same c.in-None.ensures.none) is)
