use Rattle.std.proofs.Common.{◌≡◌, ◌≤◌, ◌*◌, take}
use Rattle.std.specs.Prelude.{sum_by}
use Rattle.lvm_show.specs.Counts.{free_on}
use Rattle.lvm_show.proofs.counts.all_free.Given as goal

abbrev pub invariant-loop-row : goal.invariant-loop-row
invariant-loop-row l = (l.free ≡ sum_by (free_on l.d) (take l.row-index l.pvs)) × (l.free ≤ 65536 * l.row-index)
