use Rattle.std.proofs.Common.{◌≡◌, drop}
use Rattle.std.specs.Prelude.{bytes_eq}
use Rattle.std.specs.List.{list_any}
use Rattle.lvm_num.specs.declared.descriptor.LvRow.{LvRow}
use Rattle.lvm_vgda.proofs.head.has_name.Given as goal

abbrev pub invariant-loop-row : goal.invariant-loop-row
invariant-loop-row l = list_any (λ (row : LvRow). bytes_eq row.name l.name) (drop l.row-index l.rows) ≡ list_any (λ (row : LvRow). bytes_eq row.name l.name) l.rows
