use Rattle.std.proofs.Common.{◌≡◌, ℕ, take}
use Rattle.std.specs.Prelude.{◌==◌}
use Rattle.std.specs.List.{list_any}
use Rattle.lvm_num.specs.declared.descriptor.PvRow.{PvRow}
use Rattle.lvm_num.specs.Disks.{has}
use Rattle.lvm_session_start.proofs.parts.members.Given as goal

abbrev pub invariant-loop-row : goal.invariant-loop-row
invariant-loop-row l = (disk : ℕ) → has l.members disk ≡ list_any (λ (row : PvRow). row.disk == disk) (take l.row-index l.d.pvs)
