use Rattle.lvm_calls.proofs.MarksLemmas.{all_marked, others_marked, sound_after, markable_more}
use Rattle.lvm_calls.proofs.wanted.mark_others.Goals as goal

pub returns-in-None : goal.returns-in-None
returns-in-None c = all_marked c.args.targets.now c.args.sure c.args.updater.now c.mark_targets.new.updater c.in-None.is c.mark_targets.ensures

pub returns-in-Some : goal.returns-in-Some
returns-in-Some c = others_marked c.args.targets.now c.args.sure c.in-Some.k c.args.updater.now c.mark_targets-in-Some.new.updater c.mark_targets-in-Some-2.new.updater c.in-Some.is c.mark_targets-in-Some.ensures c.mark_targets-in-Some-2.ensures

pub mark_targets-requires-in-Some-2-clause-sound : goal.mark_targets-requires-in-Some-2-clause-sound
mark_targets-requires-in-Some-2-clause-sound c = sound_after _ c.args.updater.now c.mark_targets-in-Some.new.updater c.mark_targets-in-Some.ensures c.requires.sound

pub mark_targets-requires-in-Some-2-clause-markable : goal.mark_targets-requires-in-Some-2-clause-markable
mark_targets-requires-in-Some-2-clause-markable c = markable_more c.args.updater.now c.mark_targets-in-Some.new.updater _ c.args.targets.now _ c.mark_targets-in-Some.ensures c.requires.markable
