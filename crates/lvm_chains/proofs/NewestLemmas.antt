-- The newest of those that pass among the first so many.
use Rattle.std.proofs.Common.{◌≡◌, ◌==◌, ◌+◌, ◌<◌, ◌≤◌, ◌++◌, ◌||◌, [], ◌∷◌, ℕ, zero, suc, List, Bool, true, false, cond, refl, sym, ◌∙◌, ap, subst, arith, length, take, get_or, nat_lt, inl, inr, not}
use Rattle.std.specs.List.{list_any}
use Rattle.std.proofs.lemmas.List.{take_all, get_or_append_left}
use Rattle.std.proofs.Math.Seq.{take-suc, get_or-append_seam}
use Rattle.std.proofs.lemmas.List.Folds.{list_any-append}
use Rattle.std.proofs.lemmas.Bool.{eq-eqb, lt-ltb, cases_lt, cases_eq}
use Rattle.lvm_chains.specs.Places.{newest_by}

module _ {X : Type 0} (p : X → Bool) (d : X) where
  le_test : (t : Bool) (k n : ℕ) → n ≤ k → cond t (suc k) n ≤ suc k
  le_test true k n le = omega arith
  le_test false k n le = omega arith

  pub newest_le : (xs : List X) (k : ℕ) → newest_by p d xs k ≤ k
  newest_le xs zero = omega arith
  newest_le xs (suc k) = le_test (p (get_or xs k d)) k (newest_by p d xs k) (newest_le xs k)

  -- at the newest one stands that passes
  at_test : (t : Bool) (xs : List X) (k i : ℕ) → p (get_or xs k d) ≡ t → (newest_by p d xs k ≡ suc i → p (get_or xs i d) ≡ true) → cond t (suc k) (newest_by p d xs k) ≡ suc i → p (get_or xs i d) ≡ true
  at_test true xs k i test rest is = let same : k ≡ i = omega (arith, is) in subst (λ (n : ℕ). p (get_or xs n d) ≡ true) same test
  at_test false xs k i test rest is = rest is

  pub newest_at : (xs : List X) (k i : ℕ) → newest_by p d xs k ≡ suc i → p (get_or xs i d) ≡ true
  newest_at xs zero i is = cc
  newest_at xs (suc k) i is = at_test (p (get_or xs k d)) xs k i refl (λ at. newest_at xs k i at) is

  -- it is that of as many as it is itself, and of all in between
  fewer_test : (t : Bool) (xs : List X) (j k : ℕ) → j ≤ k → (newest_by p d xs k ≤ j → newest_by p d xs j ≡ newest_by p d xs k) → cond t (suc k) (newest_by p d xs k) ≤ j → newest_by p d xs j ≡ cond t (suc k) (newest_by p d xs k)
  fewer_test true xs j k le rest low = absurd (omega arith)
  fewer_test false xs j k le rest low = rest low

  pub newest_fewer : (xs : List X) (j k : ℕ) → j ≤ k → newest_by p d xs k ≤ j → newest_by p d xs j ≡ newest_by p d xs k
  newest_fewer xs j zero le low = ap (λ (n : ℕ). newest_by p d xs n) (let e : j ≡ zero = omega arith in e)
  newest_fewer xs j (suc k) le low = elim (cases_eq j (suc k)) [
    | inl same ↦ ap (λ (n : ℕ). newest_by p d xs n) same
    | inr apart ↦ fewer_test (p (get_or xs k d)) xs j k (omega arith) (λ less. newest_fewer xs j k (omega arith) less) low
  ]

  -- none behind it passes
  none_test : (t : Bool) (xs : List X) (k i : ℕ) → p (get_or xs k d) ≡ t → (newest_by p d xs k ≤ i → i < k → p (get_or xs i d) ≡ false) → cond t (suc k) (newest_by p d xs k) ≤ i → i < suc k → p (get_or xs i d) ≡ false
  none_test true xs k i test rest from to = absurd (omega arith)
  none_test false xs k i test rest from to = elim (cases_eq i k) [
    | inl same ↦ ap (λ (n : ℕ). p (get_or xs n d)) same ∙ test
    | inr apart ↦ rest from (omega arith)
  ]

  pub none_behind : (xs : List X) (k i : ℕ) → newest_by p d xs k ≤ i → i < k → p (get_or xs i d) ≡ false
  none_behind xs zero i from to = absurd (omega arith)
  none_behind xs (suc k) i from to = none_test (p (get_or xs k d)) xs k i refl (λ low less. none_behind xs k i low less) from to

  -- more behind change nothing
  pub newest_append : (xs ys : List X) (k : ℕ) → k ≤ length xs → newest_by p d (xs ++ ys) k ≡ newest_by p d xs k
  newest_append xs ys zero le = refl
  newest_append xs ys (suc k) le =
      ap (λ (x : X). cond (p x) (suc k) (newest_by p d (xs ++ ys) k)) (get_or_append_left xs ys d k (omega arith))
      ∙ ap (λ (n : ℕ). cond (p (get_or xs k d)) (suc k) n) (newest_append xs ys k (omega arith))

  pub newest_push : (xs : List X) (x : X) → newest_by p d (xs ++ x ∷ []) (suc (length xs)) ≡ cond (p x) (suc (length xs)) (newest_by p d xs (length xs))
  newest_push xs x =
      ap (λ (y : X). cond (p y) (suc (length xs)) (newest_by p d (xs ++ x ∷ []) (length xs))) (get_or-append_seam xs x [] d)
      ∙ ap (λ (n : ℕ). cond (p x) (suc (length xs)) n) (newest_append xs (x ∷ []) (length xs) (omega arith))

  -- there is one where there is a newest
  passes_more : (k : ℕ) → true ≡ nat_lt 0 (suc k)
  passes_more k = sym (lt-ltb 0 (suc k) (omega arith))

  some_test : (t : Bool) (k n : ℕ) (b : Bool) → b ≡ nat_lt 0 n → (b || (t || false)) ≡ nat_lt 0 (cond t (suc k) n)
  some_test true k n true is = passes_more k
  some_test true k n false is = passes_more k
  some_test false k n true is = is
  some_test false k n false is = is

  any_first : (xs : List X) (k : ℕ) → k ≤ length xs → list_any p (take k xs) ≡ nat_lt 0 (newest_by p d xs k)
  any_first xs zero le = refl
  any_first xs (suc k) le =
      ap (λ (l : List X). list_any p l) (take-suc xs k d (omega arith))
      ∙ list_any-append p (take k xs) (get_or xs k d ∷ [])
      ∙ some_test (p (get_or xs k d)) k (newest_by p d xs k) (list_any p (take k xs)) (any_first xs k (omega arith))

  pub any_newest : (xs : List X) → list_any p xs ≡ nat_lt 0 (newest_by p d xs (length xs))
  any_newest xs = ap (λ (l : List X). list_any p l) (sym (take_all (length xs) xs (omega arith))) ∙ any_first xs (length xs) (omega arith)
