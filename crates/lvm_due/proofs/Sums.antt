-- A sum with one term more.
use Rattle.std.proofs.Common.{◌≡◌, ◌<◌, ◌+◌, ℕ, zero, suc, List, [], ◌∷◌, take, Some, length, slice_get, refl, subst, arith}
use Rattle.std.specs.List.{sum_by}
use Rattle.std.proofs.lemmas.List.Sums.{sum_by-cons}

sum_suc : {A : Type 0} (f : A → ℕ) (xs : List A) (k n : ℕ) → k < length xs → ((x : A) → slice_get xs k ≡ Some x → n ≡ f x) → sum_by f (take k xs) + n ≡ sum_by f (take (suc k) xs)
sum_suc f [] k n less is = absurd (omega (arith, less))
sum_suc f (x ∷ xs) zero n less is = let one = sum_by-cons f x [] in let its = is x refl in omega (arith, one, its)
sum_suc f (x ∷ xs) (suc k) n less is =
    let before = sum_by-cons f x (take k xs) in
    let behind = sum_by-cons f x (take (suc k) xs) in
    let rest = sum_suc f xs k n (omega (arith, less)) is in
    omega (arith, before, behind, rest)

pub sum_at : {A : Type 0} (f : A → ℕ) (xs : List A) (k n : ℕ) → k < length xs → ((x : A) → slice_get xs k ≡ Some x → n ≡ f x) → sum_by f (take k xs) + n ≡ sum_by f (take (k + 1) xs)
sum_at f xs k n less is = let same : suc k ≡ k + 1 = omega arith in subst (λ m. sum_by f (take k xs) + n ≡ sum_by f (take m xs)) same (sum_suc f xs k n less is)
