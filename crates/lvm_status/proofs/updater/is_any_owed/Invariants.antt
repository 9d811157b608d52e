use Rattle.std.proofs.Common.{◌≡◌, drop}
use Rattle.std.specs.Prelude.{◌||◌}
use Rattle.std.specs.List.{list_any}
use Rattle.lvm_status.specs.passed.Num.{PvRow, has}
use Rattle.lvm_status.proofs.updater.is_any_owed.Given as goal

abbrev pub invariant-loop-row : goal.invariant-loop-row
invariant-loop-row l = list_any (λ (row : PvRow). has l.writes.unstarted row.disk || has l.writes.started row.disk) (drop l.row-index l.d.pvs) ≡ list_any (λ (row : PvRow). has l.writes.unstarted row.disk || has l.writes.started row.disk) l.d.pvs
