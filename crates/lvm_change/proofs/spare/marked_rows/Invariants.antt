use Rattle.std.proofs.Common.{◌≡◌, map, take}
use Rattle.lvm_change.specs.Spare.{marked}
use Rattle.lvm_change.proofs.spare.marked_rows.Given as goal

abbrev pub invariant-loop-row : goal.invariant-loop-row
invariant-loop-row l = l.pvs.items ≡ map (marked l.disk l.on) (take l.row-index l.rows)
