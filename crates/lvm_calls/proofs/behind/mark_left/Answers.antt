use Rattle.std.proofs.Common.{sym, subst}
use Rattle.std.specs.Prelude.{All}
use Rattle.lvm_num.specs.declared.descriptor.LvRow.{LvRow}
use Rattle.lvm_status.specs.Calls.{IsMarkable}
use Rattle.lvm_calls.proofs.MarksLemmas.{markable_on, sound_after}
use Rattle.lvm_calls.proofs.LeftLemmas.{volumes_more}
use Rattle.lvm_calls.proofs.BringingLemmas.{all_at}
use Rattle.lvm_calls.proofs.behind.mark_left.Goals as goal

pub mark_volume-requires-clause-sound : goal.mark_volume-requires-clause-sound
mark_volume-requires-clause-sound c = sound_after _ c.args.updater.now c.loop-volume.updater c.loop-volume.invariant c.requires.sound

pub mark_volume-requires-clause-markable : goal.mark_volume-requires-clause-markable
mark_volume-requires-clause-markable c =
    let old = c.args.updater.now.wanted in
    let row = c.volume-item.result in
    let all = subst (λ (r : LvRow). All (IsMarkable old) r.map) (sym c.volume-item.is) (all_at (IsMarkable old) c.args.volumes.now c.loop-volume.volume-index row c.loop-volume-test.true c.requires.markable) in
    λ k d less. markable_on old c.loop-volume.updater.wanted _ c.loop-volume.invariant.rows (all k d less)

pub loop-volume-preserved : goal.loop-volume-preserved
loop-volume-preserved c =
    volumes_more c.args.updater.now c.loop-volume.updater c.mark_volume.new.updater c.args.volumes.now c.loop-volume.volume-index c.volume-item.result c.loop-volume-test.true c.volume-item.is
    c.loop-volume.invariant c.mark_volume.ensures
