-- The front of a buffer, block by block.
use Rattle.std.proofs.Common.{◌≡◌, ◌+◌, ◌*◌, ◌≤◌, ◌++◌, ◌∷◌, [], ℕ, zero, suc, List, Some, length, take, slice_get, add-one, ◌∙◌, ap, arith}
use Rattle.std.specs.Simd.{first_chunks}
use Rattle.lvm_num.proofs.Fronts.{suc_front, suc_chunks}

pub front_more : {X : Type 0} (xs : List X) (k : ℕ) (x : X) → slice_get xs k ≡ Some x → take (k + 1) xs ≡ take k xs ++ x ∷ []
front_more xs k x is = ap (λ n. take n xs) (add-one k) ∙ suc_front xs k x is

pub within : {X : Type 0} (xs : List X) (k : ℕ) (x : X) → slice_get xs k ≡ Some x → k + 1 ≤ length xs
within [] k x is = absurd (cc (is))
within (y ∷ xs) zero x is = omega arith
within (y ∷ xs) (suc k) x is = let less = within xs k x is in omega (arith, less)

pub chunks_more : (k : ℕ) (bytes more : List ℕ) → length bytes ≡ 512 * k → length more ≡ 512 → first_chunks 512 (k + 1) (bytes ++ more) ≡ first_chunks 512 k bytes ++ more ∷ []
chunks_more k bytes more long one = ap (λ n. first_chunks 512 n (bytes ++ more)) (add-one k) ∙ suc_chunks k bytes more long one
