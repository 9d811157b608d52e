use Rattle.std.proofs.Common.{List, length, refl, ap, ◌∙◌}
use Rattle.std.proofs.lemmas.List.{length-map}
use Rattle.lvm_num.specs.declared.status.Status.{Status}
use Rattle.lvm_num.specs.declared.status.StatusRow.{StatusRow}
use Rattle.lvm_num.proofs.DescriptorLemmas.Bounds.{few_dirty}
use Rattle.lvm_status.specs.Rerowed.{row_from}
use Rattle.lvm_status.proofs.RerowedLemmas.{copied, copied_valid}
use Rattle.lvm_status.proofs.table.StaleTable.copy_rows.Goals as goal

pub copy_from-requires : goal.copy_from-requires
copy_from-requires c = rw c.as_slice.ensures (few_dirty c.from.inside.status.dirty c.from.invariant.dirty)

pub invariant_of-self : goal.invariant_of-self
invariant_of-self c =
    copied_valid c.from.inside.status c.self.inside.status _ c.from.invariant c.self.invariant refl refl (c.copy_from.ensures ∙ c.as_slice.ensures) c.become_rows.ensures

pub returns-clause-rows : goal.returns-clause-rows
returns-clause-rows c =
    let now : Status = record { id = c.from.inside.status.id; big = c.self.inside.status.big; dirty = c.copy_from.new.self; rows = c.become_rows.new.rows } in
    rw (← c.self.view_is, ← c.from.view_is)
    (copied c.from.inside.status c.self.inside.status now c.from.invariant refl refl (c.copy_from.ensures ∙ c.as_slice.ensures) c.become_rows.ensures)

pub returns-clause-many : goal.returns-clause-many
returns-clause-many c =
    ap (λ (l : List StatusRow). length l) c.become_rows.ensures ∙ length-map c.self.inside.status.rows (row_from c.from.inside.status) ∙ ap (λ (s : Status). length s.rows) c.self.view_is
