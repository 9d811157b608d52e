-- What holds of each element of a list as one is set, added or goes.
use Rattle.std.proofs.Common.{◌≡◌, ◌≤◌, ◌+◌, ℕ, zero, suc, Bool, false, ◌||◌, List, [], ◌∷◌, Some, length, map, slice_get, slice_set, refl, sym, ◌∙◌, ap, arith}
use Rattle.std.specs.Prelude.{count_by}
use Rattle.std.specs.List.{list_any, remove, AllByRecursion}
use Rattle.std.proofs.lemmas.List.Sums.{sum_by-cons}
use Rattle.lvm_num.proofs.Lists.{all_weaker}
use Rattle.lvm_session.specs.Sound.{count_if}

module _ {A : Type 0} where
  -- one is set
  pub all_set : (P Q : A → Type 0) → ((x : A) → P x → Q x) → (xs : List A) (k : ℕ) (y : A) → Q y → AllByRecursion P xs → AllByRecursion Q (slice_set xs k y)
  all_set P Q on [] k y its all = tt
  all_set P Q on (x ∷ xs) zero y its all = (its, all_weaker P Q on xs all.1)
  all_set P Q on (x ∷ xs) (suc k) y its all = (on x all.0, all_set P Q on xs k y its all.1)

  pub any_set : (t : A → Bool) (xs : List A) (k : ℕ) (x y : A) → slice_get xs k ≡ Some x → t y ≡ t x → list_any t (slice_set xs k y) ≡ list_any t xs
  any_set t [] k x y there same = refl
  any_set t (z ∷ xs) zero x y there same = let is : z ≡ x = cc there in ap (λ b. b || list_any t xs) (same ∙ ap t (sym is))
  any_set t (z ∷ xs) (suc k) x y there same = ap (λ b. t z || b) (any_set t xs k x y there same)

  pub set_here : (xs : List A) (k : ℕ) (x y : A) → slice_get xs k ≡ Some x → slice_get (slice_set xs k y) k ≡ Some y
  set_here [] k x y there = absurd (cc there)
  set_here (z ∷ xs) zero x y there = refl
  set_here (z ∷ xs) (suc k) x y there = set_here xs k x y there

  pub count_cons : (t : A → Bool) (x : A) (xs : List A) → count_by t (x ∷ xs) ≡ count_if (t x) + count_by t xs
  count_cons t x xs = sum_by-cons (λ y. count_if (t y)) x xs

  pub count_set : (t : A → Bool) (xs : List A) (k : ℕ) (x y : A) → slice_get xs k ≡ Some x → count_by t (slice_set xs k y) + count_if (t x) ≡ count_by t xs + count_if (t y)
  count_set t [] k x y there = absurd (cc there)
  count_set t (z ∷ xs) zero x y there =
      let is : z ≡ x = cc there in
      let same : count_if (t z) ≡ count_if (t x) = ap (λ (w : A). count_if (t w)) is in
      let new = count_cons t y xs in
      let old = count_cons t z xs in
      omega (arith, same, new, old)
  count_set t (z ∷ xs) (suc k) x y there =
      let rest = count_set t xs k x y there in
      let new = count_cons t z (slice_set xs k y) in
      let old = count_cons t z xs in
      omega (arith, rest, new, old)

  pub count_same : (t : A → Bool) (xs : List A) (k : ℕ) (x y : A) → slice_get xs k ≡ Some x → t y ≡ t x → count_by t (slice_set xs k y) ≡ count_by t xs
  count_same t xs k x y there same =
      let all = count_set t xs k x y there in
      let one : count_if (t y) ≡ count_if (t x) = ap count_if same in
      omega (arith, all, one)

  -- one goes
  pub all_removed : (P : A → Type 0) (xs : List A) (k : ℕ) → AllByRecursion P xs → AllByRecursion P (remove xs k)
  all_removed P [] zero all = tt
  all_removed P [] (suc k) all = tt
  all_removed P (x ∷ xs) zero all = all.1
  all_removed P (x ∷ xs) (suc k) all = (all.0, all_removed P xs k all.1)

  pub length_removed : (xs : List A) (k : ℕ) → length (remove xs k) ≤ length xs
  length_removed [] zero = omega arith
  length_removed [] (suc k) = omega arith
  length_removed (x ∷ xs) zero = omega arith
  length_removed (x ∷ xs) (suc k) = let rest = length_removed xs k in omega (arith, rest)

  -- each of the others has a place
  pub get_removed : (xs : List A) (k j : ℕ) (x : A) → (j ≡ k → ⊥) → slice_get xs j ≡ Some x → (i : ℕ) × (slice_get (remove xs k) i ≡ Some x)
  get_removed [] k j x other there = absurd (cc there)
  get_removed (z ∷ xs) zero zero x other there = absurd (other refl)
  get_removed (z ∷ xs) zero (suc j) x other there = (j, there)
  get_removed (z ∷ xs) (suc k) zero x other there = (zero, there)
  get_removed (z ∷ xs) (suc k) (suc j) x other there = let rest = get_removed xs k j x (λ e. other (ap suc e)) there in (suc rest.0, rest.1)

  pub any_removed : (t : A → Bool) (xs : List A) (k : ℕ) (x : A) → slice_get xs k ≡ Some x → t x ≡ false → list_any t (remove xs k) ≡ list_any t xs
  any_removed t [] k x there none = absurd (cc there)
  any_removed t (z ∷ xs) zero x there none = let is : z ≡ x = cc there in sym (ap (λ b. b || list_any t xs) (ap t is ∙ none))
  any_removed t (z ∷ xs) (suc k) x there none = ap (λ b. t z || b) (any_removed t xs k x there none)

  pub count_removed : (t : A → Bool) (xs : List A) (k : ℕ) (x : A) → slice_get xs k ≡ Some x → t x ≡ false → count_by t (remove xs k) ≡ count_by t xs
  count_removed t [] k x there none = absurd (cc there)
  count_removed t (z ∷ xs) zero x there none =
      let is : z ≡ x = cc there in
      let one : count_if (t z) ≡ 0 = ap count_if (ap t is ∙ none) in
      let old = count_cons t z xs in
      omega (arith, one, old)
  count_removed t (z ∷ xs) (suc k) x there none =
      let rest = count_removed t xs k x there none in
      let new = count_cons t z (remove xs k) in
      let old = count_cons t z xs in
      omega (arith, rest, new, old)

-- each is made into another
pub all_mapped : {A : Type 0} (P Q : A → Type 0) (f : A → A) → ((x : A) → P x → Q (f x)) → (xs : List A) → AllByRecursion P xs → AllByRecursion Q (map f xs)
all_mapped P Q f on [] all = tt
all_mapped P Q f on (x ∷ xs) all = (on x all.0, all_mapped P Q f on xs all.1)
