-- The bytes of names are text.
use Rattle.std.proofs.Common.{◌≡◌, ℕ, zero, suc, ◌<◌, lit<, true, ◌&&◌, List, [], ◌∷◌, arith}
use Rattle.std.specs.Prelude.{IsTrue, nat_le, nat_eq, not, codes, length}
use Rattle.std.specs.List.{list_all, starts_with}
use Rattle.std.specs.Str.{IsAscii, IsUtf8}
use Rattle.std.proofs.lemmas.Bool.Decides.{nat_tests}
use Rattle.std.proofs.lemmas.Str.{IsUtf8-from_ascii}
use Rattle.std.proofs.lemmas.Bool.{and_parts}
use Rattle.lvm_num.specs.Name.{is_letter, is_name_byte, is_name}

letter_low : (b : ℕ) → is_letter b ≡ true → b < 128
letter_low b e = grind (arith, nat_tests)

byte_low : (b : ℕ) → is_name_byte b ≡ true → b < 128
byte_low b e = grind (arith, nat_tests)

bytes_low : (bytes : List ℕ) → list_all is_name_byte bytes ≡ true → IsAscii bytes
bytes_low [] e i = lit< tt
bytes_low (b ∷ bs) e zero = byte_low b (and_parts (is_name_byte b) (list_all is_name_byte bs) e).0
bytes_low (b ∷ bs) e (suc i) = bytes_low bs (and_parts (is_name_byte b) (list_all is_name_byte bs) e).1 i

name_low : (bytes : List ℕ) → is_name bytes ≡ true → IsAscii bytes
unfolding is_name
name_low [] e i = absurd cc
name_low (b ∷ bs) e zero =
    letter_low b (and_parts (nat_le (length bs) 14 && not (starts_with nat_eq (b ∷ bs) (codes "hdisk"))) (is_letter b)
    (and_parts (nat_le (length bs) 14 && not (starts_with nat_eq (b ∷ bs) (codes "hdisk")) && is_letter b) (list_all is_name_byte bs) e).0).1
name_low (b ∷ bs) e (suc i) =
    bytes_low bs (and_parts (nat_le (length bs) 14 && not (starts_with nat_eq (b ∷ bs) (codes "hdisk")) && is_letter b) (list_all is_name_byte bs) e).1 i

pub name_is_text : (bytes : List ℕ) → IsTrue (is_name bytes) → IsUtf8 bytes
name_is_text bytes is = IsUtf8-from_ascii bytes (name_low bytes is)
