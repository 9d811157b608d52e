use Rattle.std.proofs.Common.{◌≡◌, take}
use Rattle.std.specs.Prelude.{◌==◌, not, filter}
use Rattle.lvm_num.specs.declared.descriptor.LvRow.{LvRow}
use Rattle.lvm_volume_plan.proofs.next.without_volume.Given as goal

abbrev pub invariant-loop-row : goal.invariant-loop-row
invariant-loop-row l = l.lvs.items ≡ filter (λ (row : LvRow). not (row.number == l.lv)) (take l.row-index l.row-items)
