-- How many numbers below one pass a test.
use Rattle.std.proofs.Common.{◌≡◌, ℕ, zero, suc, ◌+◌, ◌≤◌, Bool, true, false, ◌||◌, ◌==◌, List, [], ◌∷◌, length, refl, ap, arith, add-one}
use Rattle.std.specs.Prelude.{if◌then◌else◌}
use Rattle.std.specs.List.{list_any}
use Rattle.std.proofs.lemmas.Bool.Decides.{nat_tests}
use Rattle.std.proofs.lemmas.Bool.{eqb-true}

abbrev pub one_if : Bool → ℕ
one_if true = 1
one_if false = 0

unfoldable pub count_below : (ℕ → Bool) → ℕ → ℕ
count_below p zero = 0
count_below p (suc n) = count_below p n + one_if (p n)

pub count_more : (p : ℕ → Bool) (n : ℕ) → count_below p (n + 1) ≡ count_below p n + one_if (p n)
unfolding count_below
count_more p n = ap (count_below p) (add-one n)

pub count_zero : (p : ℕ → Bool) → count_below p 0 ≡ 0
unfolding count_below
count_zero p = refl

one_or : (a b : Bool) → one_if (a || b) ≤ one_if a + one_if b
one_or true true = omega arith
one_or true false = omega arith
one_or false b = omega arith

count_or : (p q : ℕ → Bool) (n : ℕ) → count_below (λ d. p d || q d) n ≤ count_below p n + count_below q n
unfolding count_below
count_or p q zero = omega arith
count_or p q (suc n) = omega (arith, count_or p q n, one_or (p n) (q n))

-- one number passes
apart : (x n : ℕ) → n ≤ x → count_below (λ d. x == d) n ≡ 0
unfolding count_below
apart x zero le = refl
apart x (suc n) le =
    let e : (x == n) ≡ false = grind (arith, nat_tests) in
    omega (arith, apart x n (omega (arith, le)), ap one_if e)

count_one : (x n : ℕ) → count_below (λ d. x == d) n ≤ 1
unfolding count_below
count_one x zero = omega arith
count_one x (suc n) = by_test (x == n) refl (count_one x n)
  where
    by_test : (t : Bool) → (x == n) ≡ t → count_below (λ d. x == d) n ≤ 1 → count_below (λ d. x == d) n + one_if t ≤ 1
    by_test true is rest = let e : x ≡ n = eqb-true x n is in omega (arith, apart x n (omega (arith, e)))
    by_test false is rest = omega (arith, rest)

none_below : (n : ℕ) → count_below (λ d. false) n ≤ 0
unfolding count_below
none_below zero = omega arith
none_below (suc n) = omega (arith, none_below n)

-- as many as a list has at most are in it
pub count_any : {X : Type 0} (f : X → ℕ) (xs : List X) (n : ℕ) → count_below (λ d. list_any (λ x. f x == d) xs) n ≤ length xs
count_any f [] n = none_below n
count_any f (x ∷ xs) n = omega (arith, count_or (λ d. f x == d) (λ d. list_any (λ y. f y == d) xs) n, count_one (f x) n, count_any f xs n)

-- ---- a step of a loop that counts

pub chosen : {X : Type 0} (b : Bool) (x y z : X) → z ≡ (if b then x else y) → b ≡ true → z ≡ x
chosen true x y z e is = e
chosen false x y z e is = absurd cc

pub counted : (len below next : ℕ) (b : Bool) → len ≡ below → next ≡ below + one_if b → b ≡ true → ◌≡◌ {A = ℕ} (len + 1) next
counted len below next true e f is = omega (arith, e, f)
counted len below next false e f is = absurd cc

pub same_count : (len below next : ℕ) (b : Bool) → len ≡ below → next ≡ below + one_if b → b ≡ false → len ≡ next
same_count len below next true e f is = absurd cc
same_count len below next false e f is = omega (arith, e, f)
