use Rattle.std.proofs.Common.{◌≡◌, drop}
use Rattle.std.specs.Prelude.{nat_lt}
use Rattle.std.specs.List.{list_all}
use Rattle.lvm_num.specs.declared.status.StatusRow.{StatusRow}
use Rattle.lvm_vgsa.proofs.reading.is_behind.Given as goal

abbrev pub invariant-loop-row : goal.invariant-loop-row
invariant-loop-row l = list_all (λ (row : StatusRow). nat_lt row.disk l.disk) (drop l.row-index l.earlier) ≡ list_all (λ (row : StatusRow). nat_lt row.disk l.disk) l.earlier
