use Rattle.std.proofs.Common.{◌≡◌, drop}
use Rattle.lvm_volumes.specs.Tidying.{needs_mark}
use Rattle.lvm_volumes.proofs.tidying.needs_mark.Given as goal

abbrev pub invariant-loop-row : goal.invariant-loop-row
invariant-loop-row l = needs_mark (drop l.row-index l.volumes) l.table l.number ≡ needs_mark l.volumes l.table l.number
