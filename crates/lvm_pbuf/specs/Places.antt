-- Where a pool keeps its buffers.
use Rattle.std.specs.Prelude.{◌≡◌, ◌≤◌, ℕ, List, Option, Some, length, slice_get}
use Rattle.lvm_num.specs.Buffer.{Buffer}

-- each buffer that is in stands at the place of its number
pub record IsAtHome (places : List (Option Buffer)) : Type 0 where
  pub most : length places ≤ 1024
  pub number : (k : ℕ) (buf : Buffer) → slice_get places k ≡ Some (Some buf) → buf.number ≡ k
