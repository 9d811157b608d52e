use Rattle.std.proofs.Common.{◌≡◌, ◌≤◌, take}
use Rattle.std.specs.Prelude.{count_by}
use Rattle.lvm_num.specs.declared.descriptor.PvRow.{PvRow}
use Rattle.lvm_num.specs.Disks.{has}
use Rattle.lvm_due.proofs.work_left_status.count_in.Given as goal

abbrev pub invariant-loop-row : goal.invariant-loop-row
invariant-loop-row l = (l.count ≡ count_by (λ (row : PvRow). has l.disks row.disk) (take l.row-index l.d.pvs)) × (l.count ≤ l.row-index)
