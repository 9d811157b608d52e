-- Blocks that one word fills.
use Rattle.std.specs.Prelude.{ℕ, Bool, ◌==◌, List, replicate}
use Rattle.std.specs.List.{concat}
use Rattle.std.specs.Int.{w64, to_be_bytes, from_be_bytes}

-- the eight big-endian bytes of a word, 64 times
unfoldable pub fill_of : ℕ → List ℕ
fill_of word = concat (replicate 64 (to_be_bytes w64 word))

-- the eight bytes are the word's, the highest first
abbrev pub is_word : ℕ → List ℕ → Bool
is_word word piece = from_be_bytes w64 piece == word
