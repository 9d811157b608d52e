use Rattle.std.proofs.Common.{◌≡◌, ℕ, ◌&&◌, not, take}
use Rattle.std.specs.Prelude.{◌==◌}
use Rattle.std.specs.List.{list_any}
use Rattle.lvm_status.specs.passed.Num.{PvRow, has, calls_missing}
use Rattle.lvm_status.proofs.updater.members_there.Given as goal

abbrev pub invariant-loop-row : goal.invariant-loop-row
invariant-loop-row l = (disk : ℕ) → has l.there disk ≡ list_any (λ (row : PvRow). row.disk == disk) (take l.row-index l.d.pvs) && not (calls_missing l.table disk)
