-- Tests of lists by tests that entail them.
use Rattle.std.proofs.Common.{[], ap, arith, Bool, false, inl, inr, List, refl, slice_get, slice_set, Some, suc, sym, true, zero, ◌||◌, ℕ, ◌∙◌, ◌∷◌, ◌≡◌, ◌≤◌, ◌⊎◌}
use Rattle.std.specs.List.{AllByRecursion, list_all, list_any}
use Rattle.std.specs.Prelude.{count_by}
use Rattle.lvm_session.specs.Sound.{count_if}
use Rattle.lvm_keeps.proofs.Lists.{count_cons}
use Rattle.lvm_keeps.proofs.Small.{both}
pub use Rattle.std.proofs.lemmas.Bool.{and_from as all_and, or_cases as either}
pub use Rattle.lvm_num.proofs.Booleans.{or_true, or_false, and_false}
use Rattle.lvm_num.proofs.Booleans.{not_so}

module _ {A : Type 0} (t u : A → Bool) (on : (x : A) → t x ≡ true → u x ≡ true) where
  pub any_on : (xs : List A) → list_any t xs ≡ true → list_any u xs ≡ true
  any_on [] e = e
  any_on (x ∷ xs) e = by (t x) refl (λ f. any_on xs f) e
    where
      by : (b : Bool) → t x ≡ b → (list_any t xs ≡ true → list_any u xs ≡ true) → b || list_any t xs ≡ true → u x || list_any u xs ≡ true
      by true is rest f = ap (λ c. c || list_any u xs) (on x is)
      by false is rest f = ap (λ c. u x || c) (rest f) ∙ or_true (u x)

  pub count_on : (xs : List A) → count_by t xs ≤ count_by u xs
  count_on [] = omega arith
  count_on (x ∷ xs) = let a = count_cons t x xs in let b = count_cons u x xs in let one = of_one (t x) refl in let rest = count_on xs in omega (arith, a, b, one, rest)
    where
      of_one : (b : Bool) → t x ≡ b → count_if (t x) ≤ count_if (u x)
      of_one true is = let p : count_if (t x) ≡ 1 = ap count_if is in let q : count_if (u x) ≡ 1 = ap count_if (on x is) in omega (arith, p, q)
      of_one false is = let p : count_if (t x) ≡ 0 = ap count_if is in omega (arith, p)

module _ {A : Type 0} where
  -- of all that pass one that is there does
  pub all_true_at : (t : A → Bool) (xs : List A) (k : ℕ) (x : A) → list_all t xs ≡ true → slice_get xs k ≡ Some x → t x ≡ true
  all_true_at t [] k x all there = absurd (cc there)
  all_true_at t (y ∷ xs) zero x all there = let same : y ≡ x = cc there in sym (ap t same) ∙ (both (t y) (list_all t xs) all).0
  all_true_at t (y ∷ xs) (suc k) x all there = all_true_at t xs k x (both (t y) (list_all t xs) all).1 there

  -- what holds at each place holds of each
  pub by_places : (P : A → Type 0) (xs : List A) → ((k : ℕ) (x : A) → slice_get xs k ≡ Some x → P x) → AllByRecursion P xs
  by_places P [] each = tt
  by_places P (x ∷ xs) each = (each zero x refl, by_places P xs (λ k y at. each (suc k) y at))

  -- none passes where none that is there does
  pub none_by : (t : A → Bool) (xs : List A) → ((k : ℕ) (x : A) → slice_get xs k ≡ Some x → t x ≡ false) → list_any t xs ≡ false
  none_by t [] none = refl
  none_by t (x ∷ xs) none = ap (λ b. b || list_any t xs) (none 0 x refl) ∙ none_by t xs (λ k y there. none (suc k) y there)

  -- what is counted at none is found at none
  pub none_of_zero : (t : A → Bool) (xs : List A) → count_by t xs ≡ 0 → list_any t xs ≡ false
  none_of_zero t [] zero_is = refl
  none_of_zero t (x ∷ xs) zero_is = by (t x) refl (none_of_zero t xs (let more = count_cons t x xs in omega (arith, more, zero_is)))
    where
      by : (b : Bool) → t x ≡ b → list_any t xs ≡ false → b || list_any t xs ≡ false
      by false is rest = rest
      by true is rest = let more = count_cons t x xs in let one : count_if (t x) ≡ 1 = ap count_if is in absurd (omega (arith, more, zero_is, one))

  -- one that passes is there
  pub found_at : (t : A → Bool) (xs : List A) → list_any t xs ≡ true → (k : ℕ) × (x : A) × (slice_get xs k ≡ Some x) × (t x ≡ true)
  found_at t [] e = not_so e
  found_at t (x ∷ xs) e = by (t x) refl (λ f. found_at t xs f) e
    where
      by : (b : Bool) → t x ≡ b → (list_any t xs ≡ true → (k : ℕ) × (y : A) × (slice_get xs k ≡ Some y) × (t y ≡ true)) → b || list_any t xs ≡ true → (k : ℕ) × (y : A) × (slice_get (x ∷ xs) k ≡ Some y) × (t y ≡ true)
      by true is rest f = (0, x, refl, is)
      by false is rest f = let it = rest f in (suc it.0, it.1, it.2, it.3)

  -- where one is set one that passes was there, or is that one
  pub set_either : (t : A → Bool) (xs : List A) (k : ℕ) (y : A) → list_any t (slice_set xs k y) ≡ true → (list_any t xs ≡ true) ⊎ (t y ≡ true)
  set_either t [] k y e = not_so e
  set_either t (x ∷ xs) zero y e = by (either (t y) (list_any t xs) e)
    where
      by : (t y ≡ true) ⊎ (list_any t xs ≡ true) → (t x || list_any t xs ≡ true) ⊎ (t y ≡ true)
      by (inl is) = inr is
      by (inr some) = inl (ap (λ b. t x || b) some ∙ or_true (t x))
  set_either t (x ∷ xs) (suc k) y e = by (either (t x) (list_any t (slice_set xs k y)) e) (λ some. set_either t xs k y some)
    where
      of : (list_any t xs ≡ true) ⊎ (t y ≡ true) → (t x || list_any t xs ≡ true) ⊎ (t y ≡ true)
      of (inl rest) = inl (ap (λ b. t x || b) rest ∙ or_true (t x))
      of (inr is) = inr is

      by : (t x ≡ true) ⊎ (list_any t (slice_set xs k y) ≡ true) → (list_any t (slice_set xs k y) ≡ true → (list_any t xs ≡ true) ⊎ (t y ≡ true)) → (t x || list_any t xs ≡ true) ⊎ (t y ≡ true)
      by (inl is) rest = inl (ap (λ b. b || list_any t xs) is)
      by (inr some) rest = of (rest some)

  -- what follows of each one that is there
  pub all_there : (P Q : A → Type 0) (xs : List A) → ((k : ℕ) (x : A) → slice_get xs k ≡ Some x → P x → Q x) → AllByRecursion P xs → AllByRecursion Q xs
  all_there P Q [] on all = tt
  all_there P Q (x ∷ xs) on all = (on 0 x refl all.0, all_there P Q xs (λ k y there its. on (suc k) y there its) all.1)
