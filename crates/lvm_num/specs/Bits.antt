-- Bits of a list of bytes: bit k is that of value 2^(k mod 8) in byte k / 8.
use Rattle.std.specs.Prelude.{ℕ, ◌/◌, ◌%◌, Bool, ◌==◌, List, slice_index}
use Rattle.std.specs.Int.{bit_at}

-- whether the bit is set; none is behind the last byte
unfoldable pub has_bit : List ℕ → ℕ → Bool
has_bit bytes k = bit_at (slice_index bytes (k / 8)) (k % 8) == 1
