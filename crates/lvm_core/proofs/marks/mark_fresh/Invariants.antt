use Rattle.std.proofs.Common.{◌≡◌, false, [], take}
use Rattle.std.specs.Prelude.{All}
use Rattle.lvm_num.specs.declared.place.Pp.{Pp}
use Rattle.lvm_num.specs.Status.{calls_stale}
use Rattle.lvm_core.proofs.StepsLemmas.Marking.{SoFar}
use Rattle.lvm_core.proofs.marks.mark_fresh.Given as goal

abbrev pub invariant-loop-pp : goal.invariant-loop-pp
invariant-loop-pp l = SoFar [] (take l.pp-index l.pps) (All (λ (p : Pp). calls_stale l.initial.updater.wanted p ≡ false) l.pps) l.initial.updater l.updater
