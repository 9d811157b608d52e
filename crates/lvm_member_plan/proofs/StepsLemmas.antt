-- The steps by which a member leaves are steps between neighbours.
use Rattle.std.proofs.Common.{◌≡◌, ◌≢◌, ◌⊎◌, inl, inr, ℕ, zero, suc, ◌<◌, ◌≤◌, ◌+◌, Bool, true, false, ◌||◌, not, List, [], ◌∷◌, length, get_or, Some, None, refl, sym, ◌∙◌, ap, subst, arith}
use Rattle.std.specs.Prelude.{◌==◌, IsTrue, IsFalse, All, AllPairs}
use Rattle.std.specs.List.{list_any}
use Rattle.std.proofs.lemmas.Bool.{eqb-true, false≢true}
use Rattle.std.proofs.lemmas.List.Elements.{All-append}
use Rattle.lvm_num.specs.declared.place.Pp.{Pp}
use Rattle.lvm_num.specs.declared.descriptor.PvRow.{PvRow}
use Rattle.lvm_num.specs.declared.descriptor.LvRow.{LvRow}
use Rattle.lvm_num.specs.declared.descriptor.Descriptor.{Descriptor}
use Rattle.lvm_num.specs.Descriptor.{IsValid, is_member, partitions_in, partitions_used}
use Rattle.lvm_num.proofs.Booleans.{or_false, first_fails, second_fails}
use Rattle.lvm_core.specs.Committing.{is_in}
use Rattle.lvm_change_votes.specs.Meeting.{AreNeighbours}
use Rattle.lvm_change_laws.specs.Rule.{staying}
use Rattle.lvm_change_laws.proofs.StayingLemmas.{all_stay}
use Rattle.lvm_member_plan.specs.declared.steps.StepsOut.{StepsOut}
use Rattle.lvm_member_plan.specs.Descriptors.{without_members, with_even, reduced, is_first, is_used}
use Rattle.lvm_member_plan.specs.Steps.{IsStep, MayDepart, AreStepsOut}
use Rattle.lvm_member_plan.proofs.ValidityLemmas.{without_valid, even_valid}
use Rattle.lvm_member_plan.proofs.NeighbourLemmas.{IsSplitAt, split_at, even_near, without_near}

-- ---- no partition is on the disk

none_at : {X : Type 0} (t : X → Bool) (xs : List X) → list_any t xs ≡ false → (k : ℕ) (e : X) → k < length xs → t (get_or xs k e) ≡ false
none_at t [] none k e few = absurd (omega (arith, few))
none_at t (x ∷ xs) none zero e few = first_fails (t x) (list_any t xs) none
none_at t (x ∷ xs) none (suc k) e few = none_at t xs (second_fails (t x) (list_any t xs) none) k e (omega (arith, few))

abbrev Apart : ℕ → Pp → Type 0
Apart x p = (p.disk == x) ≡ false

pub unused_all : (x : ℕ) (rows : List LvRow) → list_any (λ (row : LvRow). list_any (λ (pp : Pp). pp.disk == x) row.map) rows ≡ false → All (Apart x) (partitions_in rows)
unused_all x [] none = λ k e few. absurd (omega (arith, few))
unused_all x (row ∷ rows) none = All-append (Apart x) row.map (partitions_in rows)
    (none_at (λ (pp : Pp). pp.disk == x) row.map (first_fails (list_any (λ (pp : Pp). pp.disk == x) row.map) (list_any (λ (r : LvRow). list_any (λ (pp : Pp). pp.disk == x) r.map) rows) none))
    (unused_all x rows (second_fails (list_any (λ (pp : Pp). pp.disk == x) row.map) (list_any (λ (r : LvRow). list_any (λ (pp : Pp). pp.disk == x) r.map) rows) none))

-- ---- how many stay

two_rows : (rows : List PvRow) (x y : ℕ) → (x ≡ y → ⊥) → list_any (λ (row : PvRow). row.disk == x) rows ≡ true → list_any (λ (row : PvRow). row.disk == y) rows ≡ true → 2 ≤ length rows
two_rows [] x y apart one other = absurd (false≢true one)
two_rows (a ∷ []) x y apart one other = absurd (apart (sym (eqb-true a.disk x (sym (or_false (a.disk == x)) ∙ one)) ∙ eqb-true a.disk y (sym (or_false (a.disk == y)) ∙ other)))
two_rows (a ∷ b ∷ rows) x y apart one other = omega arith

module _ (d : Descriptor) (disk : ℕ) (valid : IsValid d) (may : MayDepart d disk) where
  split : IsSplitAt disk d.pvs
  split = split_at disk d.pvs valid.members.disks_differ may.member

  many : 2 ≤ length d.pvs
  many = two_rows d.pvs may.other disk may.apart may.stays may.member

  -- the group without it is valid, even where two stay
  gone_valid : (even : Bool) → (even ≡ true → length d.pvs ≡ 3) → IsValid (without_members (disk ∷ []) even d)
  gone_valid even three = without_valid (disk ∷ []) even d valid (let count = split.fewer in let two = many in omega (arith, count, two)) (λ is. let count = split.fewer in let all = three is in omega (arith, count, all))
      (λ k e few. or_false ((get_or (partitions_used d) k e).disk == disk) ∙ unused_all disk d.lvs may.unused k e few)

  pub reduced_valid : IsValid (reduced (disk ∷ []) d)
  reduced_valid = gone_valid false (λ is. absurd (false≢true is))

  -- it leaves so
  leaves_by : (even : Bool) → (even ≡ true → length d.pvs ≡ 3) → (length d.pvs ≡ 3 → even ≡ true) → (length d.pvs ≡ 2 → (d.even ≡ true) ⊎ (is_first d disk ≡ false)) → IsStep (disk ∷ []) d (without_members (disk ∷ []) even d)
  leaves_by even three two one = record { valid = valid; valid_next = gone_valid even three; is = refl; near = without_near disk even d valid (gone_valid even three) may.member two one }

-- two members become even, or are so no more
even_step : (even : Bool) (d : Descriptor) → IsValid d → (even ≡ true → length d.pvs ≡ 2) → IsStep [] d (with_even even d)
even_step even d valid two = record {
  valid = valid;
  valid_next = even_valid even d valid two;
  is = ap (λ (rows : List PvRow). record d { pvs = rows; even = even }) (sym (all_stay d.pvs));
  near = even_near even d valid;
}

-- ---- by how many there are

pub from_three : (d : Descriptor) (disk : ℕ) → IsValid d → MayDepart d disk → length d.pvs ≡ 3 → AreStepsOut d disk (record { before = None; out = without_members (disk ∷ []) true d; after = Some (reduced (disk ∷ []) d) })
from_three d disk valid may three = record {
  before = tt;
  out = leaves_by d disk valid may true (λ is. three) (λ is. refl) (λ is. absurd (omega (arith, three, is)));
  after = even_step false (without_members (disk ∷ []) true d) (gone_valid d disk valid may true (λ is. three)) (λ is. absurd (false≢true is));
  last = refl;
  few = inl refl;
}

pub first_of_two : (d : Descriptor) (disk : ℕ) → IsValid d → MayDepart d disk → length d.pvs ≡ 2 → AreStepsOut d disk (record { before = Some (with_even true d); out = reduced (disk ∷ []) d; after = None })
first_of_two d disk valid may two = record {
  before = step;
  out = leaves_by (with_even true d) disk step.valid_next (record { member = may.member; other = may.other; stays = may.stays; apart = may.apart; unused = may.unused }) false (λ is. absurd (false≢true is)) (λ is. absurd (omega (arith, two, is))) (λ is. inl refl);
  after = tt;
  last = refl;
  few = inr refl;
}
  where
    step : IsStep [] d (with_even true d)
    step = even_step true d valid (λ is. two)

pub at_once : (d : Descriptor) (disk : ℕ) → IsValid d → MayDepart d disk → (length d.pvs ≡ 3 → ⊥) → (length d.pvs ≡ 2 → (d.even ≡ true) ⊎ (is_first d disk ≡ false)) → AreStepsOut d disk (record { before = None; out = reduced (disk ∷ []) d; after = None })
at_once d disk valid may three two = record {
  before = tt;
  out = leaves_by d disk valid may false (λ is. absurd (false≢true is)) (λ is. absurd (three is)) two;
  after = tt;
  last = refl;
  few = inl refl;
}
