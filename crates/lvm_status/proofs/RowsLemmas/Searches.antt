-- What a search in the rows of a table finds.
use Rattle.std.proofs.Common.{◌≡◌, ℕ, ◌*◌, ◌/◌, ◌%◌, ◌≤◌, Bool, true, false, cond, List, length, get_or, Some, None, sym, ap, ◌∙◌, arith}
use Rattle.std.specs.Prelude.{◌==◌, nat_lt}
use Rattle.std.specs.Int.{bit_at}
use Rattle.std.specs.List.{list_any, position, position_or_len}
use Rattle.std.proofs.lemmas.Bool.{lt-ltb, eqb-true, le-ltb}
use Rattle.std.proofs.lemmas.List.{get_or_past, get_or_default}
use Rattle.std.proofs.lemmas.List.Quantifiers.{position-Some}
use Rattle.std.proofs.lemmas.Nat.Bits.{bit_at-zero}
use Rattle.lvm_num.specs.declared.status.StatusRow.{StatusRow}
use Rattle.lvm_num.specs.Bits.{has_bit}
use Rattle.lvm_num.proofs.Lists.{any_within}
use Rattle.lvm_status.specs.Rows.{IsRowAt}

-- no bit behind the last byte is set
pub no_bit : (bytes : List ℕ) (k : ℕ) → 8 * length bytes ≤ k → has_bit bytes k ≡ false
unfolding has_bit
no_bit bytes k past =
    ap (λ byte. bit_at byte (k % 8) == 1) (get_or_past bytes (k / 8) 0 (omega arith)) ∙ ap (λ bit. bit == 1) (bit_at-zero (k % 8))

pub none_nowhere : {X : Type 0} (p : X → Bool) (xs : List X) → list_any p xs ≡ true → None ≡ position p xs → ⊥
none_nowhere {X} p xs some none =
    let here : position p xs ≡ Some (position_or_len p xs) =
    ap (λ b. cond b (Some (position_or_len p xs)) None) (lt-ltb (position_or_len p xs) (length xs) (any_within p xs some)) in
    cc

pub row_found : (rows : List StatusRow) (disk place : ℕ) (d : StatusRow) → Some place ≡ position (λ (row : StatusRow). row.disk == disk) rows
    → IsRowAt rows disk place (get_or rows place d)
row_found rows disk place d is =
    let found = position-Some (λ (row : StatusRow). row.disk == disk) rows place d (sym is) in
    record {
      within = found.0;
      there = λ e. get_or_default rows place e d found.0;
      its = eqb-true (get_or rows place d).disk disk found.1;
    }

pub past_bits : (bytes : List ℕ) (bit k : ℕ) → bit ≡ k → 8 * length bytes ≤ bit → nat_lt bit (8 * length bytes) ≡ has_bit bytes k
past_bits bytes bit k same past = le-ltb bit (8 * length bytes) past ∙ sym (no_bit bytes k (omega arith))
