use Rattle.std.proofs.Common.{◌≡◌, ℕ, List, [], ◌∷◌, ◌++◌, Vec, Global, ap, sym, ◌∙◌, arith}
use Rattle.std.specs.Prelude.{◌==◌, map, filter}
use Rattle.std.specs.List.{list_any, range_with_len}
use Rattle.lvm_num.specs.declared.descriptor.PvRow.{PvRow}
use Rattle.lvm_num.specs.declared.status.StatusRow.{StatusRow}
use Rattle.lvm_num.specs.Descriptor.{is_member}
use Rattle.lvm_status.specs.Rerowed.{row_for}
use Rattle.lvm_status.proofs.RerowedLemmas.{row_more, row_same, all_in_order}
use Rattle.lvm_status.proofs.rows.rows_for.Goals as goal
use Rattle.lvm_status.proofs.rows.rows_for.Goals.{then-has_member+in_ok-push, else-has_member}

pub loop-disk-preserved : goal.loop-disk-preserved
loop-disk-preserved c =
    let n = c.loop-disk.disk in
    let is : c.has_member.result ≡ is_member c.args.d.now n = c.has_member.ensures ∙ ap (λ (xs : List PvRow). list_any (λ (row : PvRow). row.disk == n) xs) c.as_slice.ensures in
    elim c.if-has_member.branch [
      | then-has_member+in_ok-push w ↦
          ap (λ (v : Vec StatusRow Global). v.items) w.rows-is ∙ w.in_ok-push.ensures.items
          ∙ ap (λ (l : List StatusRow). l ++ w.row_for-row.result ∷ []) c.loop-disk.invariant
          ∙ ap (λ (r : StatusRow). map (row_for c.args.said.now) (filter (is_member c.args.d.now) (range_with_len 0 n)) ++ r ∷ []) w.row_for-row.ensures
          ∙ sym (row_more c.args.said.now (is_member c.args.d.now) n (sym is ∙ w.if-has_member.true))
      | else-has_member w ↦
          ap (λ (v : Vec StatusRow Global). v.items) w.rows-is ∙ c.loop-disk.invariant ∙ sym (row_same c.args.said.now (is_member c.args.d.now) n (sym is ∙ w.if-has_member.false))
    ]

pub returns : goal.returns
returns c = c.new.ensures ∙ c.loop-disk.invariant ∙ ap (λ (l : List ℕ). map (row_for c.args.said.now) (filter (is_member c.args.d.now) l)) (all_in_order c.loop-disk.disk (omega arith))
