-- The numbers of the clients that a pass holds.
use Rattle.std.proofs.Common.{◌≡◌, ℕ, zero, suc, ◌<◌, ◌≤◌, ◌==◌, not, Bool, true, false, cond, List, [], ◌∷◌, ◌++◌, refl, sym, ap, ⊎_elim, inl, inr, arith}
use Rattle.std.specs.Prelude.{filter}
use mathlib.Core.List.{map-append}
use mathlib.Core.Logic.{dite}
use native.Mathlib.Decide.{ℕ_discrete}
use Rattle.lvm_vol.specs.Facts.{Fact, IsInList}
use Rattle.lvm_vol.proofs.FactsLemmas.Order.{stands_left}
use Rattle.lvm_turn.specs.Views.{Client, Owns, HoldsClient, numbers, counted, renewed, without, only}

-- leaving the turn renews what is their own, and keeps the clients
pub numbers-renewed : (history : List Fact) (xs : List Client) → numbers (renewed history xs) ≡ numbers xs
numbers-renewed history [] = refl
numbers-renewed history (x ∷ xs) = ap (λ ns. x.number ∷ ns) (numbers-renewed history xs)

pub numbers-append : (xs ys : List Client) → numbers (xs ++ ys) ≡ numbers xs ++ numbers ys
numbers-append xs ys = map-append (λ (x : Client). x.number) xs ys

-- a client whose number stands among those of the pass is held
pub numbers-holds : (xs : List Client) (c : ℕ) → IsInList c (numbers xs) → HoldsClient xs c
numbers-holds [] c none = absurd none
numbers-holds (x ∷ xs) c there = ⊎_elim
    (λ (is : x.number ≡ c). (x.own, inl (is, refl)))
    (λ (rest : IsInList c (numbers xs)). let held = numbers-holds xs c rest in (held.0, inr held.1))
    there

-- and the other way
pub holds-numbers : (xs : List Client) (c : ℕ) → HoldsClient xs c → IsInList c (numbers xs)
holds-numbers [] c none = absurd none.1
holds-numbers (x ∷ xs) c there = ⊎_elim
    (λ (is : (x.number ≡ c) × (x.own ≡ there.0)). inl is.0)
    (λ (rest : Owns xs c there.0). inr (holds-numbers xs c (there.0, rest)))
    there.1

module _ (p : ℕ → Bool) where
  by_number : (x : Client) (xs ys : List Client) (b : Bool) → numbers ys ≡ filter p (numbers xs) → numbers (cond b (x ∷ ys) ys) ≡ cond b (x.number ∷ filter p (numbers xs)) (filter p (numbers xs))
  by_number x xs ys true rest = ap (λ ns. x.number ∷ ns) rest
  by_number x xs ys false rest = rest

  numbers-filter : (xs : List Client) → numbers (filter (λ x. p x.number) xs) ≡ filter p (numbers xs)
  numbers-filter [] = refl
  numbers-filter (x ∷ xs) = by_number x xs (filter (λ y. p y.number) xs) (p x.number) (numbers-filter xs)

pub numbers-without : (c : ℕ) (xs : List Client) → numbers (without c xs) ≡ filter (λ n. not (n == c)) (numbers xs)
numbers-without c xs = numbers-filter (λ n. not (n == c)) xs

pub numbers-only : (c : ℕ) (xs : List Client) → numbers (only c xs) ≡ filter (λ n. n == c) (numbers xs)
numbers-only c xs = numbers-filter (λ n. n == c) xs

stands_right : {X : Type 0} (xs ys : List X) (x : X) → IsInList x ys → IsInList x (xs ++ ys)
stands_right [] ys x there = there
stands_right (z ∷ xs) ys x there = inr (stands_right xs ys x there)

-- each number from 1 to n is among these
pub stands_counted : (n c : ℕ) → 0 < c → c ≤ n → IsInList c (counted n)
stands_counted zero c low high = absurd (omega arith)
stands_counted (suc n) c low high = dite (ℕ_discrete c (suc n))
    (λ (is : c ≡ suc n). stands_right (counted n) (suc n ∷ []) c (inl (sym is)))
    (λ apart. stands_left (counted n) (suc n ∷ []) c (stands_counted n c low (omega arith)))
