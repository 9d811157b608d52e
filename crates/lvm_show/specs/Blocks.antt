-- The text of a block.
use Rattle.std.specs.Prelude.{ℕ, ◌+◌, ◌/◌, ◌%◌, nat_lt, Bool, if◌then◌else◌, List, [], ◌∷◌, ◌++◌, take, replicate, bytes_eq}
use Rattle.std.specs.List.{flat_map, concat}
use Rattle.std.specs.Fmt.{decimal}

-- the lower-case hexadecimal digit of a number below 16
abbrev pub hex_digit : ℕ → ℕ
hex_digit n = if nat_lt n 10 then 48 + n else 87 + n

-- two digits for each byte
abbrev pub hex_text : List ℕ → List ℕ
hex_text bytes = flat_map (λ b. hex_digit (b / 16) ∷ hex_digit (b % 16) ∷ []) bytes

-- the block has the same eight bytes 64 times
abbrev pub is_filled : List ℕ → Bool
is_filled block = bytes_eq block (concat (replicate 64 (take 8 block)))

-- the word that fills the block in 16 digits, or else all the block's bytes in 1,024
abbrev pub content_text : List ℕ → List ℕ
content_text block = hex_text (if is_filled block then take 8 block else block)

-- the block's number, and what it has
abbrev pub block_text : ℕ → List ℕ → List ℕ
block_text at block = decimal at ++ 32 ∷ content_text block ++ 10 ∷ []
