-- How many members pass a test.
use Rattle.std.proofs.Common.{◌≡◌, ℕ, ◌+◌, ◌≤◌, Bool, true, false, List, [], ◌∷◌, refl, ap, arith}
use Rattle.std.specs.Prelude.{cond, count_by, ◌||◌}
use Rattle.std.specs.List.{list_any}
use Rattle.std.proofs.lemmas.Bool.{false≢true}
use Rattle.std.proofs.lemmas.List.Sums.{sum_by-cons}

module _ {X : Type 0} (fewer more : X → Bool) where
  abbrev one : (X → Bool) → X → ℕ
  one p x = cond (p x) 1 0

  step : (a b : Bool) → (a ≡ true → b ≡ true) → (m n : ℕ) → m ≤ n → cond a 1 0 + m ≤ cond b 1 0 + n
  step true true within m n less = omega arith
  step true false within m n less = absurd (false≢true (within refl))
  step false true within m n less = omega arith
  step false false within m n less = omega arith

  -- no more pass a test than one that passes where it does,
  pub counts_less : (xs : List X) → ((x : X) → fewer x ≡ true → more x ≡ true) → count_by fewer xs ≤ count_by more xs
  counts_less [] within = omega arith
  counts_less (x ∷ xs) within =
      let less = step (fewer x) (more x) (within x) (count_by fewer xs) (count_by more xs) (counts_less xs within) in
      omega (arith, sum_by-cons (one fewer) x xs, sum_by-cons (one more) x xs, less)

  -- and fewer where another one passes that
  pub counts_fewer : (xs : List X) (other : X → Bool) → ((x : X) → fewer x ≡ true → more x ≡ true) → ((x : X) → other x ≡ true → (more x ≡ true) × (fewer x ≡ false)) → list_any other xs ≡ true
      → count_by fewer xs + 1 ≤ count_by more xs
  counts_fewer [] other within apart some = absurd (false≢true some)
  counts_fewer (x ∷ xs) other within apart some = by_head (counts_fewer xs other within apart) (other x) refl some
    where
      by_head : (list_any other xs ≡ true → count_by fewer xs + 1 ≤ count_by more xs) → (b : Bool) → other x ≡ b → b || list_any other xs ≡ true → count_by fewer (x ∷ xs) + 1 ≤ count_by more (x ∷ xs)
      by_head rest true is any =
          let its = apart x is in
          let none : one fewer x ≡ 0 = ap (λ b. cond {A = ℕ} b 1 0) its.1 in
          let some : one more x ≡ 1 = ap (λ b. cond {A = ℕ} b 1 0) its.0 in
          omega (arith, sum_by-cons (one fewer) x xs, sum_by-cons (one more) x xs, none, some, counts_less xs within)
      by_head rest false is any =
          let less = step (fewer x) (more x) (within x) (count_by fewer xs + 1) (count_by more xs) (rest any) in
          omega (arith, sum_by-cons (one fewer) x xs, sum_by-cons (one more) x xs, less)
