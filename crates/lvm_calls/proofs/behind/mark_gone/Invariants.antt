use Rattle.std.proofs.Common.{take}
use Rattle.std.specs.Prelude.{◌&&◌}
use Rattle.lvm_num.specs.declared.place.Pp.{Pp}
use Rattle.lvm_session.specs.Marks.{WantsStale, is_among}
use Rattle.lvm_calls.specs.Left.{is_gone}
use Rattle.lvm_calls.proofs.behind.mark_gone.Given as goal

abbrev pub invariant-loop-pp : goal.invariant-loop-pp
invariant-loop-pp l = WantsStale (λ (p : Pp). is_among (take l.pp-index l.copies) p && is_gone l.initial.updater p) l.initial.updater l.updater
