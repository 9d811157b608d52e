-- How many members are there.
use Rattle.std.proofs.Common.{◌≡◌, ◌==◌, ◌≤◌, true, not, [], get_or, refl, sym, subst}
use Rattle.std.specs.Prelude.{count_by}
use Rattle.std.specs.List.{AllByRecursion}
use Rattle.std.proofs.lemmas.Bool.{and_from as and_of, eq-eqb}
use Rattle.std.proofs.lemmas.Map.Keys.{any_passes_from_place}
use Rattle.std.proofs.lemmas.Option.{slice_get-get_or}
use Rattle.lvm_num.specs.declared.descriptor.Descriptor.{Descriptor}
use Rattle.lvm_num.specs.declared.descriptor.PvRow.{PvRow}
use Rattle.lvm_num.specs.Descriptor.{is_member}
use Rattle.lvm_num.specs.Status.{calls_missing}
use Rattle.lvm_num.proofs.Lists.{by_place}
use Rattle.lvm_commit.specs.Settling.{many_there}
use Rattle.lvm_session.specs.State.{Core, is_there}
use Rattle.lvm_keeps_events.proofs.Finding.{count_with}

-- each row is that of a member
member_rows : (d : Descriptor) → AllByRecursion (λ (row : PvRow). is_member d row.disk ≡ true) d.pvs
member_rows d = by_place (λ (row : PvRow). is_member d row.disk ≡ true) d.pvs
    (λ k e low. any_passes_from_place (λ (row : PvRow). row.disk == (get_or d.pvs k e).disk) d.pvs k (get_or d.pvs k e) (slice_get-get_or d.pvs k e low) (eq-eqb (get_or d.pvs k e).disk (get_or d.pvs k e).disk refl))

-- whoever isn't called missing is there
pub many_there_is : (core : Core) → core.status.group ≡ record core.descriptor { lvs = [] } → many_there core.status ≤ count_by (λ (row : PvRow). is_there core row.disk) core.descriptor.pvs
many_there_is core group = subst (λ (g : Descriptor). count_by (λ (row : PvRow). not (calls_missing core.status.wanted row.disk)) g.pvs ≤ count_by (λ (row : PvRow). is_there core row.disk) core.descriptor.pvs) (sym group)
    (count_with (λ (row : PvRow). is_member core.descriptor row.disk ≡ true) (λ (row : PvRow). is_there core row.disk) (λ (row : PvRow). not (calls_missing core.status.wanted row.disk))
    (λ row member there. and_of (is_member core.descriptor row.disk) (not (calls_missing core.status.wanted row.disk)) member there) core.descriptor.pvs (member_rows core.descriptor))
