-- What a name is, and its sixteen bytes in a record.
use Rattle.std.specs.Prelude.{◌≡◌, ℕ, ◌-◌, Bool, false, ◌&&◌, ◌||◌, not, nat_eq, nat_le, ◌==◌, List, [], ◌∷◌, ◌++◌, length, replicate, codes, IsTrue}
use Rattle.std.specs.List.{list_all, starts_with, before_first}

-- a letter, as a name begins with one
abbrev pub is_letter : ℕ → Bool
is_letter b = (nat_le 97 b && nat_le b 122) || (nat_le 65 b && nat_le b 90)

-- a letter, a digit or an underscore
abbrev pub is_name_byte : ℕ → Bool
is_name_byte b = is_letter b || (nat_le 48 b && nat_le b 57) || b == 95

-- 1 to 15 bytes that don't begin as the name of a disk does: a letter, then letters, digits and underscores
unfoldable pub is_name : List ℕ → Bool
is_name [] = false
is_name (b ∷ bs) = nat_le (length bs) 14 && not (starts_with nat_eq (b ∷ bs) (codes "hdisk")) && is_letter b && list_all is_name_byte bs

-- the bytes of a name, and zeros up to sixteen
abbrev pub padded : List ℕ → List ℕ
padded bytes = bytes ++ replicate (16 - length bytes) 0

-- the bytes before the first zero
abbrev pub unpadded : List ℕ → List ℕ
unpadded bytes = before_first (λ b. b == 0) bytes

-- sixteen bytes that a name and its padding make
pub record IsPadded (bytes : List ℕ) : Type 0 where
  pub same : padded (unpadded bytes) ≡ bytes
  pub name : IsTrue (is_name (unpadded bytes))
