-- The front of a buffer, block by block.
use Rattle.std.proofs.Common.{◌≡◌, ◌<◌, ◌++◌, ◌∷◌, [], ℕ, zero, suc, List, length, take, drop, slice_get, refl, ◌∙◌, ap, arith}
use Rattle.std.specs.Prelude.{IsSomeAnd}
use Rattle.std.specs.List.{flat_map}
use Rattle.std.specs.Simd.{first_chunks}
use Rattle.std.proofs.lemmas.List.{take_at, drop_at}

-- sectors that were laid end to end come apart again
pub front_chunks : (sectors : List (List ℕ)) (count : ℕ) → ((k : ℕ) → k < count → IsSomeAnd (slice_get sectors k) (λ (sector : List ℕ). length sector ≡ 512)) → first_chunks 512 count (flat_map (λ (sector : List ℕ). sector) (take count sectors)) ≡ take count sectors
front_chunks sectors zero whole = refl
front_chunks [] (suc n) whole = absurd (whole 0 (omega arith))
front_chunks (s ∷ sectors) (suc n) whole =
    let rest = flat_map (λ (sector : List ℕ). sector) (take n sectors) in
    let one : length s ≡ 512 = whole 0 (omega arith) in
    ap (λ (l : List ℕ). l ∷ first_chunks 512 n (drop 512 (s ++ rest))) (take_at s rest 512 one)
    ∙ ap (λ (l : List ℕ). s ∷ first_chunks 512 n l) (drop_at s rest 512 one)
    ∙ ap (λ (l : List (List ℕ)). s ∷ l) (front_chunks sectors n (λ k below. whole (suc k) (omega (arith, below))))
