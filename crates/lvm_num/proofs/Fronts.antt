-- The front of a list, and of bytes in blocks of 512, with one more.
use Rattle.std.proofs.Common.{◌≡◌, ◌+◌, ◌*◌, ◌≤◌, ◌++◌, ◌∷◌, [], ℕ, zero, suc, List, Some, length, take, drop, slice_get, ◌∙◌, ap, arith, length-drop}
use Rattle.std.specs.Simd.{first_chunks}
use Rattle.std.proofs.lemmas.List.{take_all, take-append-le, drop-append-le, nil_from_length}

-- one more of a list's front
pub suc_front : {X : Type 0} (xs : List X) (k : ℕ) (x : X) → slice_get xs k ≡ Some x → take (suc k) xs ≡ take k xs ++ x ∷ []
suc_front [] k x is = absurd (cc (is))
suc_front (y ∷ xs) zero x is = cc
suc_front (y ∷ xs) (suc k) x is = ap (λ (l : List _). y ∷ l) (suc_front xs k x is)

-- one more chunk of bytes
pub suc_chunks : (k : ℕ) (bytes more : List ℕ) → length bytes ≡ 512 * k → length more ≡ 512 → first_chunks 512 (suc k) (bytes ++ more) ≡ first_chunks 512 k bytes ++ more ∷ []
suc_chunks zero bytes more long one =
    let empty : bytes ≡ [] = nil_from_length bytes (omega (arith, long)) in
    ap (λ (l : List ℕ). first_chunks 512 1 (l ++ more)) empty ∙ ap (λ (l : List ℕ). l ∷ []) (take_all 512 more (omega (arith, one)))
suc_chunks (suc k) bytes more long one =
    let enough : 512 ≤ length bytes = omega (arith, long) in
    let rest : length (drop 512 bytes) ≡ 512 * k = omega (arith, length-drop 512 bytes, long) in
    ap (λ (l : List ℕ). l ∷ first_chunks 512 (suc k) (drop 512 (bytes ++ more))) (take-append-le 512 bytes more enough)
    ∙ ap (λ (l : List ℕ). take 512 bytes ∷ first_chunks 512 (suc k) l) (drop-append-le 512 bytes more enough)
    ∙ ap (λ (l : List (List ℕ)). take 512 bytes ∷ l) (suc_chunks k (drop 512 bytes) more rest one)
