use Rattle.std.proofs.Common.{◌≡◌, ◌+◌}
use Rattle.lvm_volume_plan.proofs.NewVolumeLemmas.Numbers.{AreNumbered}
use Rattle.lvm_volume_plan.proofs.next.lowest_free.Given as goal

abbrev pub invariant-loop-row : goal.invariant-loop-row
invariant-loop-row l = record {
  lowest : l.lowest ≡ l.row-index + 1;
  numbered : AreNumbered l.row-items l.row-index;
}
