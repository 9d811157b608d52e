use Rattle.std.proofs.Common.{◌≡◌, ◌+◌, suc, filter, take, ◌∙◌, ap, arith}
use Rattle.lvm_session.specs.Judging.{pps_of}
use Rattle.lvm_session.specs.Marks.{is_among}
use Rattle.lvm_calls.specs.Due.{is_meant}
use Rattle.lvm_calls.proofs.MarksLemmas.{markable_on, sound_after, then_marked, same_due, one_more_target}
use Rattle.lvm_calls.proofs.wanted.mark_targets.Goals as goal

pub mark_if-requires-clause-sound : goal.mark_if-requires-clause-sound
mark_if-requires-clause-sound c = sound_after _ c.args.updater.now c.loop-target.updater c.loop-target.invariant c.requires.sound

pub mark_if-requires-clause-markable : goal.mark_if-requires-clause-markable
mark_if-requires-clause-markable c = markable_on c.args.updater.now.wanted c.loop-target.updater.wanted _ c.loop-target.invariant.rows (c.requires.markable c.loop-target.target-index _ c.loop-target-test.true)

pub loop-target-preserved : goal.loop-target-preserved
loop-target-preserved c =
    let ts = c.args.targets.now in
    let i = c.loop-target.target-index in
    let next : suc i ≡ i + 1 = omega arith in
    same_due _ _ c.args.updater.now c.mark_if.new.updater
    (λ p. one_more_target (is_meant c.args.all) p ts i _ c.loop-target-test.true ∙ ap (λ n. is_among (pps_of (filter (is_meant c.args.all) (take n ts))) p) next)
    (then_marked _ _ c.args.updater.now c.loop-target.updater c.mark_if.new.updater c.loop-target.invariant c.mark_if.ensures)
