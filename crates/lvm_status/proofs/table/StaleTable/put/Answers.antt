use Rattle.std.proofs.Common.{◌≡◌, length, sym, arith}
use Rattle.lvm_num.specs.declared.status.StatusRow.{StatusRow}
use Rattle.lvm_status.specs.Rows.{IsRowAt, with_row_at}
use Rattle.lvm_status.specs.Table.{SameMembers}
use Rattle.lvm_status.proofs.RowsLemmas.Places.{with_row_at-members}
use Rattle.lvm_status.proofs.table.StaleTable.put.Goals as goal

there : (c : goal.After-set) → (was : StatusRow) × IsRowAt c.self.inside.status.rows c.args.row.disk c.args.place was
there c = rw c.self.view_is c.requires

members : (c : goal.After-set) → SameMembers c.self.inside.status (with_row_at c.self.inside.status c.args.place c.args.row)
members c =
    let size : length c.args.row.stale ≡ 127 = omega arith in
    let at = there c in
    with_row_at-members c.self.inside.status c.args.row.disk c.args.place at.0 c.args.row c.self.invariant at.1 (sym at.1.its) size

pub invariant_of-self : goal.invariant_of-self
invariant_of-self c = rw c.set.ensures (members c).valid

pub returns-clause-members : goal.returns-clause-members
returns-clause-members c = rw (← c.self.view_is, c.set.ensures) (members c)
