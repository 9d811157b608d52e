use Rattle.std.proofs.Common.{ℕ, true, false, ◌+◌, ◌==◌, ◌++◌, [], ◌∷◌, List, length, ap, sym, subst, ◌∙◌, arith}
use Rattle.std.specs.Prelude.{◌≡◌, not, is_ok}
use Rattle.std.proofs.lemmas.List.{length-append}
use Rattle.std.specs.List.{list_any}
use Rattle.lvm_num.specs.declared.descriptor.PvRow.{PvRow}
use Rattle.lvm_num.specs.Descriptor.{is_member}
use Rattle.lvm_num.specs.Bits.{has_bit}
use Rattle.lvm_num.specs.Disks.{has}
use Rattle.lvm_num.specs.Status.{calls_stale}
use Rattle.lvm_write.specs.Rows.{AreMemberRows}
use Rattle.lvm_write.proofs.Counting.{count_below, count_more, count_zero, count_any, chosen, counted, same_count}
use Rattle.lvm_write.proofs.RowsLemmas.{no_rows, rows_same, rows_more}
use Rattle.lvm_write.proofs.next.member_rows.Goals as goal
use Rattle.lvm_write.proofs.next.member_rows.Goals.{then-has_member+else-is_err, else-has_member}

pub loop-disk-init : goal.loop-disk-init
loop-disk-init c = record {
  rows = subst (AreMemberRows c.args.group.now (has c.args.answering) c.args.was.now 0) (sym c.new-rows.ensures.items) (no_rows c.args.group.now (has c.args.answering) c.args.was.now);
  count = ap length c.new-rows.ensures.items ∙ sym (count_zero (is_member c.args.group.now));
}

pub loop-disk-preserved : goal.loop-disk-preserved
loop-disk-preserved c =
    let n = c.loop-disk.disk in
    let is : c.has_member.result ≡ is_member c.args.group.now n = c.has_member.ensures ∙ ap (λ (xs : List PvRow). list_any (λ (row : PvRow). row.disk == n) xs) c.as_slice.ensures in
    elim c.if-has_member.branch [
      | then-has_member+else-is_err w ↦
          let member : is_member c.args.group.now n ≡ true = sym is ∙ w.if-has_member.true in
          let items : w.push.new.self.items ≡ c.loop-disk.rows.items ++ w.row_of-row.result ∷ [] =
          chosen (is_ok w.push.result) (c.loop-disk.rows.items ++ w.row_of-row.result ∷ []) c.loop-disk.rows.items w.push.new.self.items w.push.ensures.items (w.is_err.ensures.negation ∙ ap not w.if-is_err.false) in
          let all : c.if-has_member.rows.items ≡ c.loop-disk.rows.items ++ w.row_of-row.result ∷ [] = ap (λ v. v.items) w.rows-is ∙ items in
          let marks : (k : ℕ) → has_bit w.row_of-row.result.stale k ≡ calls_stale c.args.was.now (record { disk = n; pp = k }) = w.row_of-row.ensures.stale in
          record {
            rows = subst (AreMemberRows c.args.group.now (has c.args.answering) c.args.was.now (n + 1)) (sym all)
                (rows_more c.args.group.now (has c.args.answering) c.args.was.now n c.loop-disk.rows.items c.loop-disk.invariant.rows w.row_of-row.result w.row_of-row.ensures.disk c.loop-disk-test.true
                (w.row_of-row.ensures.missing ∙ ap not w.has.ensures.member) w.row_of-row.ensures.size marks member);
            count = ap length all ∙ length-append c.loop-disk.rows.items (w.row_of-row.result ∷ [])
                ∙ counted (length c.loop-disk.rows.items) (count_below (is_member c.args.group.now) n) (count_below (is_member c.args.group.now) (n + 1)) (is_member c.args.group.now n) c.loop-disk.invariant.count (count_more (is_member c.args.group.now) n) member;
          }
      | else-has_member w ↦
          let none : is_member c.args.group.now n ≡ false = sym is ∙ w.if-has_member.false in
          record {
            rows = subst (AreMemberRows c.args.group.now (has c.args.answering) c.args.was.now (n + 1)) (sym (ap (λ v. v.items) w.rows-is))
                (rows_same c.args.group.now (has c.args.answering) c.args.was.now n c.loop-disk.rows.items c.loop-disk.invariant.rows none);
            count = ap (λ v. length v.items) w.rows-is
                ∙ same_count (length c.loop-disk.rows.items) (count_below (is_member c.args.group.now) n) (count_below (is_member c.args.group.now) (n + 1)) (is_member c.args.group.now n) c.loop-disk.invariant.count (count_more (is_member c.args.group.now) n) none;
          }
    ]

pub returns-clause-fit : goal.returns-clause-fit
returns-clause-fit c = omega (arith, c.loop-disk.invariant.count, count_any (λ (row : PvRow). row.disk) c.args.group.now.pvs c.loop-disk.disk)
