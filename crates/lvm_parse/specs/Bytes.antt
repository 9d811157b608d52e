-- The bytes of a line.
use Rattle.std.specs.Prelude.{ℕ, ◌+◌, ◌==◌, nat_lt, nat_le, Bool, false, ◌&&◌, not, if◌then◌else◌, List, [], ◌∷◌, length, take, position, Option, Some, None}

-- a blank, or a byte that prints
abbrev pub is_plain : ℕ → Bool
is_plain b = nat_le 32 b && nat_le b 126

-- where no byte is bad, a line is too long behind its byte 4,096
abbrev pub too_long_or : Option ℕ → ℕ → Option ℕ
too_long_or (Some place) size = Some (place + 1)
too_long_or None size = if nat_lt 4096 size then Some 4097 else None

-- the column of the first of 4,096 bytes that is neither a blank nor prints, or else behind these
abbrev pub unreadable_at : List ℕ → Option ℕ
unreadable_at line = too_long_or (position (λ b. not (is_plain b)) (take 4096 line)) (length line)

-- the word begins with `#`, code 35
abbrev pub is_remark : List ℕ → Bool
is_remark [] = false
is_remark (b ∷ word) = b == 35
