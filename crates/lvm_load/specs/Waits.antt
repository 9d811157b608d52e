-- The count of waits, among the counts that a session tells which is lent.
use Rattle.std.specs.Prelude.{◌≤◌, ℕ, List, [], ◌∷◌, slice_index_or}
use Rattle.std.proofs.Common.{arith}
use Rattle.lvm_vol.specs.Fronts.{NoneFell}

-- how often none of the transfers that were out had ended
abbrev pub waits_in : List ℕ → ℕ
waits_in counts = slice_index_or counts 3 0

-- it doesn't fall where none does
pub waits_grow : (old new : List ℕ) → NoneFell old new → waits_in old ≤ waits_in new
waits_grow [] ys fell = omega arith
waits_grow (a ∷ []) ys fell = omega arith
waits_grow (a ∷ b ∷ []) ys fell = omega arith
waits_grow (a ∷ b ∷ c ∷ []) ys fell = omega arith
waits_grow (a ∷ b ∷ c ∷ d ∷ xs) [] fell = absurd fell
waits_grow (a ∷ b ∷ c ∷ d ∷ xs) (a1 ∷ []) fell = absurd fell.1
waits_grow (a ∷ b ∷ c ∷ d ∷ xs) (a1 ∷ b1 ∷ []) fell = absurd fell.1.1
waits_grow (a ∷ b ∷ c ∷ d ∷ xs) (a1 ∷ b1 ∷ c1 ∷ []) fell = absurd fell.1.1.1
waits_grow (a ∷ b ∷ c ∷ d ∷ xs) (a1 ∷ b1 ∷ c1 ∷ d1 ∷ ys) fell = fell.1.1.1.0
