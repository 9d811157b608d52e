-- The numbers of the copies that are usable, and the copies that a read tries.
use Rattle.std.proofs.Common.{◌≡◌, ◌<◌, ◌≤◌, ◌+◌, ◌++◌, ◌==◌, ℕ, zero, suc, Bool, true, false, not, List, [], ◌∷◌, Some, length, take, get_or, slice_get, refl, sym, ◌∙◌, ap, subst, arith}
use Rattle.std.specs.Prelude.{All, Contains, if◌then◌else◌}
use Rattle.std.specs.Option.{option_map_or}
use Rattle.std.proofs.lemmas.List.Elements.{All-nil, All-cons, All-filter}
use Rattle.lvm_num.specs.declared.place.Pp.{Pp}
use Rattle.lvm_num.specs.declared.descriptor.Policy.{Policy}
use Rattle.lvm_path.specs.passed.Sched.{AreCopies, AreCopiesAbove, IsReadOrder}
use Rattle.lvm_session.specs.State.{Core}
use Rattle.lvm_session.specs.Judging.{is_usable}
use Rattle.lvm_session.specs.Events.{load_on, loads_of, usable_from}

pub loads_are : (core : Core) (copies : List Pp) (a b c : ℕ)
    → a ≡ option_map_or (λ (p : Pp). load_on core p.disk) (slice_get copies 0) 0 → b ≡ option_map_or (λ (p : Pp). load_on core p.disk) (slice_get copies 1) 0
    → c ≡ option_map_or (λ (p : Pp). load_on core p.disk) (slice_get copies 2) 0 → a ∷ b ∷ c ∷ [] ≡ loads_of core copies
loads_are core [] a b c one two three = rw (one, two, three) refl
loads_are core (p ∷ []) a b c one two three = rw (one, two, three) refl
loads_are core (p ∷ q ∷ []) a b c one two three = rw (one, two, three) refl
loads_are core (p ∷ q ∷ r ∷ more) a b c one two three = rw (one, two, three) refl

-- one copy more
pub usable_more : (core : Core) (n : ℕ) (copies : List Pp) (k : ℕ) (p : Pp) → k < length copies → p ≡ get_or copies k p
    → usable_from core n (take (suc k) copies) ≡ usable_from core n (take k copies) ++ usable_from core (n + k) (p ∷ [])
usable_more core n [] k p within is = absurd (omega (arith, within))
usable_more core n (q ∷ copies) zero p within is = (let same : n ≡ n + 0 = omega arith in ap (λ m. usable_from core m (q ∷ [])) same) ∙ ap (λ (x : Pp). usable_from core (n + 0) (x ∷ [])) (sym is)
usable_more core n (q ∷ copies) (suc k) p within is =
    by_test (is_usable core q) (usable_more core (n + 1) copies k p (omega (arith, within)) is ∙ ap (λ m. usable_from core (n + 1) (take k copies) ++ usable_from core m (p ∷ [])) (omega arith))
  where
    by_test : (b : Bool) → usable_from core (n + 1) (take (suc k) copies) ≡ usable_from core (n + 1) (take k copies) ++ usable_from core (n + suc k) (p ∷ [])
        → (if b then n ∷ usable_from core (n + 1) (take (suc k) copies) else usable_from core (n + 1) (take (suc k) copies))
        ≡ (if b then n ∷ usable_from core (n + 1) (take k copies) else usable_from core (n + 1) (take k copies)) ++ usable_from core (n + suc k) (p ∷ [])
    by_test true rest = ap (λ (ns : List ℕ). n ∷ ns) rest
    by_test false rest = rest

pub few_usable : (core : Core) (n : ℕ) (copies : List Pp) → length (usable_from core n copies) ≤ length copies
few_usable core n [] = omega arith
few_usable core n (p ∷ copies) = by_test (is_usable core p) (few_usable core (n + 1) copies)
  where
    by_test : (b : Bool) → length (usable_from core (n + 1) copies) ≤ length copies → length (if b then n ∷ usable_from core (n + 1) copies else usable_from core (n + 1) copies) ≤ length (p ∷ copies)
    by_test true rest = omega (arith, rest)
    by_test false rest = omega (arith, rest)

above_more : (a b : ℕ) (ns : List ℕ) → a ≤ b → AreCopiesAbove b ns → AreCopiesAbove a ns
above_more a b [] less are = tt
above_more a b (n ∷ ns) less are = let high = are.0 in (omega (arith, less, high), are.1, are.2)

copies_above : (core : Core) (n : ℕ) (copies : List Pp) → n + length copies ≤ 3 → AreCopiesAbove n (usable_from core (n + 1) copies)
copies_above core n [] few = tt
copies_above core n (p ∷ copies) few = by_test (is_usable core p) (copies_above core (n + 1) copies (omega (arith, few)))
  where
    by_test : (b : Bool) → AreCopiesAbove (n + 1) (usable_from core (n + 1 + 1) copies) → AreCopiesAbove n (if b then (n + 1) ∷ usable_from core (n + 1 + 1) copies else usable_from core (n + 1 + 1) copies)
    by_test true rest = (omega arith, omega (arith, few), rest)
    by_test false rest = above_more n (n + 1) (usable_from core (n + 1 + 1) copies) (omega arith) rest

pub copies_are : (core : Core) (copies : List Pp) → length copies ≤ 3 → AreCopies (usable_from core 1 copies)
copies_are core copies few = copies_above core 0 copies (omega (arith, few))

-- what holds of each usable copy holds of each that a read tries
module _ (P : ℕ → Type 0) where
  contained : (ns : List ℕ) (n : ℕ) → All P ns → Contains ns n → P n
  contained ns n all among = subst P among.2 (all among.0 n among.1)

  pub order_holds : (how : Policy) (usable : List ℕ) (last : ℕ) (loads order : List ℕ) → All P usable → IsReadOrder how usable last loads order → All P order
  order_holds how usable last loads [] all is = All-nil P
  order_holds how usable last loads (first ∷ rest) all is =
      All-cons P first rest (contained usable first all is.among) (subst (All P) (sym is.then) (All-filter (λ n. not (n == first)) P usable all))

-- each number is that of a usable copy
pub usable_holds : (core : Core) (P : ℕ → Type 0) (n : ℕ) (copies : List Pp) → ((k : ℕ) (p : Pp) → slice_get copies k ≡ Some p → is_usable core p ≡ true → P (n + k)) → All P (usable_from core n copies)
usable_holds core P n [] each = All-nil P
usable_holds core P n (p ∷ copies) each =
    by_test (is_usable core p) refl (usable_holds core P (n + 1) copies (λ k q there usable. subst P (omega arith) (each (suc k) q there usable)))
  where
    by_test : (b : Bool) → is_usable core p ≡ b → All P (usable_from core (n + 1) copies) → All P (if b then n ∷ usable_from core (n + 1) copies else usable_from core (n + 1) copies)
    by_test true is rest = All-cons P n (usable_from core (n + 1) copies) (subst P (omega arith) (each zero p refl is)) rest
    by_test false is rest = rest
