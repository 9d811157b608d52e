use Rattle.std.proofs.Common.{◌≡◌, ◌<◌, ℕ, List, length, slice_get}
use Rattle.std.specs.Prelude.{IsSomeAnd}
use Rattle.lvm_moves.proofs.front.are_whole.Given as goal

abbrev pub invariant-loop-k : goal.invariant-loop-k
invariant-loop-k l = (k : ℕ) → k < l.k → IsSomeAnd (slice_get l.buf.sectors k) (λ (sector : List ℕ). length sector ≡ 512)
