-- Lists with one element more, and with those that a test leaves.
use Rattle.std.proofs.Common.{◌≡◌, ◌⊎◌, inl, inr, ⊎_elim, ℕ, zero, suc, ◌+◌, ◌<◌, ◌≤◌, Bool, true, false, cond, List, [], ◌∷◌, ◌++◌, length, get_or, take, drop, sym, subst, arith}
use Rattle.std.specs.Prelude.{filter, insert, All, AllPairs}
use Rattle.std.proofs.lemmas.List.Kept.{AllPairs-cons}
use Rattle.std.proofs.lemmas.List.{length-drop, length-take-le, take-append-drop, get_or-take, get_or-drop}
use Rattle.std.proofs.lemmas.List.Elements.{All-append, All-cons, All-take, All-drop}
use Rattle.lvm_num.proofs.Pairs.{AllPairs-left, AllPairs-right, AllPairs-across, AllPairs-append}
use Rattle.lvm_num.proofs.AmongLemmas.{one_of_left, one_of_right, one_of_either}
use Rattle.lvm_core.specs.passed.Kept.{IsOneOf}

-- ---- pairs

pub pairs_one : {X : Type 0} (R : X → X → Type 0) (y : X) → AllPairs R (y ∷ [])
pairs_one R y i j d less lt = absurd (omega (arith, less, lt))

-- ---- one more

module _ {X : Type 0} (xs : List X) (k : ℕ) (y : X) (le : k ≤ length xs) where
  pub all_insert : (P : X → Type 0) → All P xs → P y → All P (insert xs k y)
  all_insert P all own = All-append P (take k xs) (y ∷ drop k xs) (All-take P k xs all) (All-cons P y (drop k xs) own (All-drop P k xs all))

  pub pairs_insert : (R : X → X → Type 0) → AllPairs R xs → ((i : ℕ) (d : X) → i < k → R (get_or xs i d) y) → ((i : ℕ) (d : X) → k ≤ i → i < length xs → R y (get_or xs i d)) → AllPairs R (insert xs k y)
  pairs_insert R pairs before behind = AllPairs-append R (take k xs) (y ∷ drop k xs) (AllPairs-left R (take k xs) (drop k xs) both)
      (AllPairs-cons R y (drop k xs) after (AllPairs-right R (take k xs) (drop k xs) both)) across
    where
      both : AllPairs R (take k xs ++ drop k xs)
      both = subst (AllPairs R) (sym (take-append-drop k xs)) pairs

      after : All (R y) (drop k xs)
      after i d lt = subst (R y) (sym (get_or-drop k xs i d)) (behind (k + i) d (omega arith) (omega (arith, lt, length-drop k xs)))

      across : (i j : ℕ) (d : X) → i < length (take k xs) → j < length (y ∷ drop k xs) → R (get_or (take k xs) i d) (get_or (y ∷ drop k xs) j d)
      across i zero d i-lt j-lt = let i-below : i < k = omega (arith, i-lt, length-take-le k xs le) in subst (λ (x : X). R x y) (sym (get_or-take k xs i d i-below)) (before i d i-below)
      across i (suc j) d i-lt j-lt = AllPairs-across R (take k xs) (drop k xs) both i j d i-lt (omega (arith, j-lt))

-- ---- one of them

-- one of those with one more is that, or one of the others
pub one_insert : {X : Type 0} (xs : List X) (k : ℕ) (y x : X) → IsOneOf (insert xs k y) x → (x ≡ y) ⊎ IsOneOf xs x
one_insert {X} xs k y x one = ⊎_elim (λ a. inr (whole (one_of_left (take k xs) (drop k xs) x a))) behind (one_of_either (take k xs) (y ∷ drop k xs) x one)
  where
    whole : IsOneOf (take k xs ++ drop k xs) x → IsOneOf xs x
    whole a = subst (λ (l : List X). IsOneOf l x) (take-append-drop k xs) a

    behind : IsOneOf (y ∷ drop k xs) x → (x ≡ y) ⊎ IsOneOf xs x
    behind (inl here) = inl here
    behind (inr there) = inr (whole (one_of_right (take k xs) (drop k xs) x there))

pub one_filter : {X : Type 0} (p : X → Bool) (xs : List X) (x : X) → IsOneOf (filter p xs) x → IsOneOf xs x
one_filter p [] x one = one
one_filter p (z ∷ xs) x one = by_test (p z) (one_filter p xs x) one
  where
    by_test : (t : Bool) → (IsOneOf (filter p xs) x → IsOneOf xs x) → IsOneOf (cond t (z ∷ filter p xs) (filter p xs)) x → IsOneOf (z ∷ xs) x
    by_test true rest (inl here) = inl here
    by_test true rest (inr there) = inr (rest there)
    by_test false rest one = inr (rest one)
