use Rattle.lvm_num.proofs.Pairs.{All-right}
use Rattle.lvm_status.specs.Calls.{IsMarkable}
use Rattle.lvm_core.proofs.StepsLemmas.Marking.{markable_still, marked_both}
use Rattle.lvm_core.proofs.marks.mark.Goals as goal

pub mark_fresh-requires-clause-markable : goal.mark_fresh-requires-clause-markable
mark_fresh-requires-clause-markable c = λ k d lt.
    markable_still c.args.updater.now.wanted c.mark_stale.new.updater.wanted _ c.mark_stale.ensures.rest.rows (All-right (IsMarkable c.args.updater.now.wanted) c.args.stale.now c.args.fresh.now c.requires.markable k d lt)

pub returns : goal.returns
returns c = marked_both c.args.stale.now c.args.fresh.now c.args.updater.now c.mark_stale.new.updater c.mark_fresh.new.updater c.mark_stale.ensures c.mark_fresh.ensures
