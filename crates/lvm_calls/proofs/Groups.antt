-- A track group of a logical partition begins at a multiple of 256 blocks.
use Rattle.std.proofs.Common.{◌≡◌, ◌≤◌, ◌+◌, ◌*◌, ◌%◌, ℕ, ◌∙◌, arith}

pub in_group : (mib lp cursor at : ℕ) → at ≡ 2048 * mib * lp + 256 * cursor → at % 256 + 256 ≤ 256
in_group mib lp cursor at is = let same = low (mib * lp) cursor at (is ∙ grind (arith)) in omega (arith, same)
  where
    low : (x k at : ℕ) → at ≡ 2048 * x + 256 * k → at % 256 ≡ 0
    low x k at is = omega (arith, is)
