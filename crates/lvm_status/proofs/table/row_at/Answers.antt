use Rattle.std.specs.Prelude.{◌==◌}
use Rattle.std.proofs.Common.{false, []}
use Rattle.lvm_num.specs.declared.status.StatusRow.{StatusRow}
use Rattle.lvm_status.proofs.RowsLemmas.Searches.{none_nowhere, row_found}
use Rattle.lvm_status.proofs.table.row_at.Goals as goal

pub unreachable-requires : goal.unreachable-requires
unreachable-requires c = none_nowhere (λ (row : StatusRow). row.disk == c.args.disk) c.args.rows.now c.requires c.in-None.ensures

pub returns : goal.returns
returns c = row_found c.args.rows.now c.args.disk c.in-Some.place (record { disk = 0; missing = false; stale = [] }) c.in-Some.ensures
