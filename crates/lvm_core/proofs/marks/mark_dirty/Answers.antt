use Rattle.std.proofs.Common.{◌≡◌, ℕ, ◌+◌, true, [], sym, ◌∙◌, ap, subst, take}
use Rattle.std.specs.Prelude.{All, slice_index_or}
use Rattle.std.proofs.lemmas.List.{get_or_default}
use Rattle.lvm_num.specs.declared.status.Status.{Status}
use Rattle.lvm_num.specs.Status.{calls_dirty}
use Rattle.lvm_status.specs.Update.{Stored}
use Rattle.lvm_core.proofs.StepsLemmas.Dirtying.{DirtSoFar, dirty_passed, dirty_wanted}
use Rattle.lvm_core.proofs.marks.mark_dirty.Goals as goal
use Rattle.lvm_core.proofs.marks.mark_dirty.Goals.{then-not-is_dirty, else-not-is_dirty}

pub want-requires : goal.want-requires
want-requires c =
    c.requires.numbers c.loop-number.number-index 0 c.loop-number-test.true

pub loop-number-preserved : goal.loop-number-preserved
loop-number-preserved c =
    let old = c.args.updater.now in
    let now = c.loop-number.updater in
    let numbers = c.args.numbers.now in
    let i = c.loop-number.number-index in
    let p : ℕ = slice_index_or numbers i 0 in
    let its = get_or_default numbers i 0 p c.loop-number-test.true in
    let none = All (λ (q : ℕ). calls_dirty old.wanted q ≡ true) numbers in
    elim c.if-not-is_dirty.branch [
      | then-not-is_dirty w ↦ subst (λ (u : Stored). DirtSoFar (take (i + 1) numbers) [] none old u) (sym w.updater-is)
          (dirty_wanted numbers none i p c.loop-number-test.true its old now w.want.new.self c.loop-number.invariant (ap (λ (s : Status). calls_dirty s p) (sym c.wanted.ensures) ∙ sym c.is_dirty.ensures ∙ w.if-not-is_dirty.true) (λ all. all i 0 c.loop-number-test.true) w.want.ensures.wanted w.want.ensures.rest)
      | else-not-is_dirty w ↦ subst (λ (u : Stored). DirtSoFar (take (i + 1) numbers) [] none old u) (sym w.updater-is) (dirty_passed numbers none i p c.loop-number-test.true its old now c.loop-number.invariant (ap (λ (s : Status). calls_dirty s p) (sym c.wanted.ensures) ∙ sym c.is_dirty.ensures ∙ w.if-not-is_dirty.false))
    ]
