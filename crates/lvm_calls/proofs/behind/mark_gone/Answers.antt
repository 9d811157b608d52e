use Rattle.lvm_calls.proofs.MarksLemmas.{markable_on, sound_after}
use Rattle.lvm_calls.proofs.LeftLemmas.{gone_more}
use Rattle.lvm_calls.proofs.behind.mark_gone.Goals as goal

pub mark_if_gone-requires-clause-sound : goal.mark_if_gone-requires-clause-sound
mark_if_gone-requires-clause-sound c = sound_after _ c.args.updater.now c.loop-pp.updater c.loop-pp.invariant c.requires.sound

pub mark_if_gone-requires-clause-markable : goal.mark_if_gone-requires-clause-markable
mark_if_gone-requires-clause-markable c = markable_on c.args.updater.now.wanted c.loop-pp.updater.wanted _ c.loop-pp.invariant.rows (c.requires.markable c.loop-pp.pp-index _ c.loop-pp-test.true)

pub loop-pp-preserved : goal.loop-pp-preserved
loop-pp-preserved c = gone_more c.args.updater.now c.loop-pp.updater c.mark_if_gone.new.updater c.args.copies.now c.loop-pp.pp-index _ c.loop-pp-test.true c.loop-pp.invariant c.mark_if_gone.ensures
