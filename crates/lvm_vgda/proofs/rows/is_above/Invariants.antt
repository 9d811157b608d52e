use Rattle.std.proofs.Common.{◌≡◌, drop}
use Rattle.std.specs.Prelude.{nat_lt}
use Rattle.std.specs.List.{list_all}
use Rattle.lvm_num.specs.declared.descriptor.LvRow.{LvRow}
use Rattle.lvm_vgda.proofs.rows.is_above.Given as goal

abbrev pub invariant-loop-row : goal.invariant-loop-row
invariant-loop-row l = list_all (λ (row : LvRow). nat_lt row.number l.number) (drop l.row-index l.rows) ≡ list_all (λ (row : LvRow). nat_lt row.number l.number) l.rows
