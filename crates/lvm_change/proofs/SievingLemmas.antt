-- The disks of a set that aren't in another, one disk after another.
use Rattle.std.proofs.Common.{◌≡◌, ℕ, ◌+◌, ◌<◌, Bool, true, false, ◌&&◌, ◌||◌, refl, ap, arith}
use Rattle.std.specs.Prelude.{◌==◌, nat_lt, not}
use Rattle.std.proofs.lemmas.Bool.Decides.{nat_tests}

pub below_next : (k n : ℕ) → nat_lt k (n + 1) ≡ (nat_lt k n || k == n)
below_next k n = grind (arith, nat_tests)

pub is_below : (k n : ℕ) → k < n → nat_lt k n ≡ true
is_below k n less = grind (arith, nat_tests)

-- one that is in the other is taken out,
pub taken : (a o e l : Bool) → (e ≡ true → o ≡ true) → (a && not (o && l)) && not e ≡ a && not (o && (l || e))
taken true true true true f = refl
taken true true true false f = refl
taken true true false true f = refl
taken true true false false f = refl
taken true false true l f = absurd (never (f refl))
  where
    never : false ≡ true → ⊥
    never e = absurd cc
taken true false false l f = refl
taken false o e l f = refl

-- and one that isn't stays
pub left : (a o e l : Bool) → (e ≡ true → o ≡ false) → a && not (o && l) ≡ a && not (o && (l || e))
left true true true l f = absurd (never (f refl))
  where
    never : true ≡ false → ⊥
    never e = absurd cc
left true true false true f = refl
left true true false false f = refl
left true false e l f = refl
left false o e l f = refl

pub sieved : (a o l : Bool) → (o ≡ true → l ≡ true) → a && not (o && l) ≡ a && not o
sieved a true l f = ap (λ (b : Bool). a && not b) (f refl)
sieved a false l f = refl
