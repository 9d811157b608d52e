use Rattle.std.proofs.Common.{◌≡◌, ◌+◌, ℕ, false, List, take, sym, ◌∙◌, subst}
use Rattle.std.specs.Prelude.{slice_index_or}
use Rattle.std.proofs.lemmas.List.{get_or_default}
use Rattle.lvm_num.specs.declared.descriptor.PvRow.{PvRow}
use Rattle.lvm_num.specs.declared.status.Status.{Status}
use Rattle.lvm_handover.specs.Serving.{MarksMissing}
use Rattle.lvm_handover.proofs.ServingLemmas.Marking.{none_more, one_missing}
use Rattle.lvm_handover.proofs.handover.mark_missing.Goals as goal
use Rattle.lvm_handover.proofs.handover.mark_missing.Goals.{then-is_missing, else-is_missing}

-- in the words of the table that is left, and of the group
as_table : {members pvs : List PvRow} (new : Status) {left : Status} → new ≡ left → members ≡ pvs → (i : ℕ) (now old : Status) → MarksMissing (take (i + 1) members) now old left → MarksMissing (take (i + 1) pvs) now old new
as_table {pvs = pvs} new {left = left} is same i now old marks = subst (MarksMissing (take (i + 1) pvs) now old) (sym is) (subst (λ (rows : List PvRow). MarksMissing (take (i + 1) rows) now old left) same marks)

abbrev first : PvRow
first = record { disk = 0; pps = 0; spare = false }

pub loop-member-preserved : goal.loop-member-preserved
loop-member-preserved c =
    let members : List PvRow = c.as_slice-member-items.result.now in
    let same : members ≡ c.args.group.now.pvs = c.as_slice-member-items.ensures in
    let i : ℕ = c.loop-member.member-index in
    let row : PvRow = slice_index_or members i first in
    let its = get_or_default members i first row c.loop-member-test.true in
    let now : Status = c.args.now.now in
    let old : Status = c.args.table.now in
    let mid : Status = c.loop-member.table in
    let so_far : MarksMissing (take i members) now old mid = subst (λ (rows : List PvRow). MarksMissing (take i rows) now old mid) (sym same) c.loop-member.invariant in
    elim c.if-is_missing.branch [
      | then-is_missing w ↦ as_table c.if-is_missing.table w.table-is same i now old
          (one_missing members i row c.loop-member-test.true its now old mid so_far w.set_missing.new.self (sym c.is_missing.ensures ∙ w.if-is_missing.true) w.set_missing.ensures.members w.set_missing.ensures.stale w.set_missing.ensures.missing w.set_missing.ensures.dirty)
      | else-is_missing w ↦ as_table c.if-is_missing.table w.table-is same i now old (none_more members i row c.loop-member-test.true its now old mid so_far (sym c.is_missing.ensures ∙ w.if-is_missing.false))
    ]
