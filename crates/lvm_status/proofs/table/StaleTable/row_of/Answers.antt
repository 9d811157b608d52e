use Rattle.std.proofs.Common.{List, subst}
use Rattle.lvm_num.specs.declared.status.StatusRow.{StatusRow}
use Rattle.lvm_status.specs.Rows.{IsRowAt}
use Rattle.lvm_status.proofs.table.StaleTable.row_of.Goals as goal

pub returns-clause-at : goal.returns-clause-at
returns-clause-at c =
    rw (← c.self.view_is)
    (subst (λ (rows : List StatusRow). IsRowAt rows c.args.disk c.row_at.result.0 c.row_at.result.1) c.as_slice.ensures c.row_at.ensures)
