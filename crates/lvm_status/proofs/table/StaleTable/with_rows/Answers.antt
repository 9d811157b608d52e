use Rattle.std.proofs.Common.{refl, ◌∙◌}
use Rattle.lvm_status.proofs.RerowedLemmas.{made, made_valid}
use Rattle.lvm_status.proofs.table.StaleTable.with_rows.Goals as goal

pub invariant_of-result : goal.invariant_of-result
invariant_of-result c =
    made_valid c.args.d.now c.self.inside.status (record { id = c.self.inside.status.id; big = c.args.d.now.big; dirty = c.in_ok-dirty.dirty; rows = c.in_ok-rows.rows })
    c.requires c.self.invariant refl refl (c.in_ok-dirty.ensures ∙ c.as_slice.ensures) c.in_ok-rows.ensures

pub returns : goal.returns
returns c =
    rw (← c.self.view_is)
    (made c.args.d.now c.self.inside.status (record { id = c.self.inside.status.id; big = c.args.d.now.big; dirty = c.in_ok-dirty.dirty; rows = c.in_ok-rows.rows })
    c.requires c.self.invariant refl refl (c.in_ok-dirty.ensures ∙ c.as_slice.ensures) c.in_ok-rows.ensures)
