use Rattle.lvm_session.specs.Marks.{WantsStale}
use Rattle.lvm_calls.specs.Left.{is_left_below}
use Rattle.lvm_calls.proofs.behind.mark_volume.Given as goal

abbrev pub invariant-loop-lp : goal.invariant-loop-lp
invariant-loop-lp l = WantsStale (is_left_below l.initial.updater l.volume l.lp) l.initial.updater l.updater
