use Rattle.lvm_num.specs.Status.{IsVolumeNumber}
use Rattle.lvm_num.proofs.Pairs.{All-left, All-right}
use Rattle.lvm_core.proofs.StepsLemmas.Dirtying.{dirtied_both}
use Rattle.lvm_core.proofs.marks.mark_volumes.Goals as goal

pub mark_dirty-requires-clause-numbers : goal.mark_dirty-requires-clause-numbers
mark_dirty-requires-clause-numbers c = All-left IsVolumeNumber c.args.dirty.now c.args.clean.now c.requires.numbers

pub mark_clean-requires-clause-numbers : goal.mark_clean-requires-clause-numbers
mark_clean-requires-clause-numbers c = All-right IsVolumeNumber c.args.dirty.now c.args.clean.now c.requires.numbers

pub returns : goal.returns
returns c = dirtied_both c.args.dirty.now c.args.clean.now c.args.updater.now c.mark_dirty.new.updater c.mark_clean.new.updater c.mark_dirty.ensures c.mark_clean.ensures
