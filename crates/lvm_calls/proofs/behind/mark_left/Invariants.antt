use Rattle.std.proofs.Common.{take}
use Rattle.lvm_session.specs.Marks.{WantsStale}
use Rattle.lvm_calls.specs.Left.{is_left_of}
use Rattle.lvm_calls.proofs.behind.mark_left.Given as goal

abbrev pub invariant-loop-volume : goal.invariant-loop-volume
invariant-loop-volume l = WantsStale (is_left_of l.initial.updater (take l.volume-index l.volumes)) l.initial.updater l.updater
