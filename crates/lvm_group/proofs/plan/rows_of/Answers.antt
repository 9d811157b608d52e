use Rattle.std.proofs.Common.{◌≡◌, ℕ, List, [], ◌∷◌, ◌++◌, Vec, Global, true, false, ap, sym, ◌∙◌, arith}
use Rattle.std.specs.Prelude.{map, filter}
use Rattle.lvm_num.specs.declared.status.StatusRow.{StatusRow}
use Rattle.lvm_num.specs.Disks.{has}
use Rattle.lvm_group.specs.NewGroup.{clear_row}
use Rattle.lvm_group.proofs.NewGroupLemmas.Searches.{row_more, row_same, all_in_order}
use Rattle.lvm_group.proofs.plan.rows_of.Goals as goal
use Rattle.lvm_group.proofs.plan.rows_of.Goals.{then-has+in_ok-push, else-has}

pub loop-disk-preserved : goal.loop-disk-preserved
loop-disk-preserved c = elim c.if-has.branch [
  | then-has+in_ok-push w ↦
      let passes : has c.args.disks c.loop-disk.disk ≡ true = sym c.has.ensures.member ∙ w.if-has.true in
      ap (λ (v : Vec StatusRow Global). v.items) w.rows-is ∙ w.in_ok-push.ensures.items ∙ ap (λ (l : List StatusRow). l ++ clear_row c.loop-disk.disk ∷ []) c.loop-disk.invariant
      ∙ sym (row_more (has c.args.disks) c.loop-disk.disk passes)
  | else-has w ↦
      let passes : has c.args.disks c.loop-disk.disk ≡ false = sym c.has.ensures.member ∙ w.if-has.false in
      ap (λ (v : Vec StatusRow Global). v.items) w.rows-is ∙ c.loop-disk.invariant ∙ sym (row_same (has c.args.disks) c.loop-disk.disk passes)
]

pub returns : goal.returns
returns c = c.new.ensures ∙ c.loop-disk.invariant ∙ ap (λ (l : List ℕ). map clear_row (filter (has c.args.disks) l)) (all_in_order c.loop-disk.disk (omega arith))
