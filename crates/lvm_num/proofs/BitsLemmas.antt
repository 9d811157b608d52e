-- Bits of a list of bytes.
use Rattle.std.proofs.Common.{◌≡◌, ◌≢◌, inl, inr, ℕ, ◌-◌, ◌*◌, ◌/◌, ◌%◌, ◌^◌, ◌<◌, false, ◌&&◌, ◌||◌, not, List, length, get_or, set, replicate, sym, ap, ◌∙◌, arith}
use Rattle.std.specs.Prelude.{◌==◌, bit_and, bit_or}
use Rattle.std.specs.Int.{w8, bit_at}
use Rattle.std.proofs.lemmas.Bool.{cases_eq, cases_lt}
use Rattle.std.proofs.lemmas.Bool.Decides.{eqb_tells}
use Rattle.std.proofs.lemmas.List.{get_or-set_same, get_or-set_other, get_or-replicate, get_or_past, length-replicate}
use Rattle.std.proofs.lemmas.Nat.Bits.{bit_at-zero, bit_at_set_same, bit_at_set_other, bit_at_clear_same, bit_at_clear_other, shr_and_one}
use Rattle.lvm_num.specs.Bits.{has_bit}
use Rattle.lvm_num.proofs.DisksLemmas.{or-true, or-false, and-false, and-true}

-- the test by a shift
pub shift-bit : (bytes : List ℕ) (k : ℕ) → bit_and (get_or bytes (k / 8) 0 / 2 ^ (k % 8)) 1 == 1 ≡ has_bit bytes k
unfolding has_bit
shift-bit bytes k = ap (λ n. n == 1) (shr_and_one (get_or bytes (k / 8) 0) (k % 8))

module _ (bytes : List ℕ) (bit : ℕ) (within : bit < 8 * length bytes) where
  old : ℕ
  old = get_or bytes (bit / 8) 0

  in-bytes : bit / 8 < length bytes
  in-bytes = omega arith

  in-byte : bit % 8 < 8
  in-byte = omega arith

  -- a bit of a changed byte
  changed : (byte k : ℕ) → k / 8 ≡ bit / 8 → bit_at (get_or (set bytes (bit / 8) byte) (k / 8) 0) (k % 8) ≡ bit_at byte (k % 8)
  changed byte k same = ap (λ i. bit_at (get_or (set bytes (bit / 8) byte) i 0) (k % 8)) same ∙ ap (λ n. bit_at n (k % 8)) (get_or-set_same bytes (bit / 8) byte 0 in-bytes)

  -- a bit of another byte
  kept : (byte k : ℕ) → k / 8 ≢ bit / 8 → bit_at (get_or (set bytes (bit / 8) byte) (k / 8) 0) (k % 8) ≡ bit_at (get_or bytes (k / 8) 0) (k % 8)
  kept byte k differ = ap (λ n. bit_at n (k % 8)) (get_or-set_other bytes (bit / 8) (k / 8) byte 0 differ)

  was : (k : ℕ) → k / 8 ≡ bit / 8 → bit_at (get_or bytes (bit / 8) 0) (k % 8) ≡ bit_at (get_or bytes (k / 8) 0) (k % 8)
  was k same = ap (λ i. bit_at (get_or bytes i 0) (k % 8)) (sym same)

pub has-set : (bytes : List ℕ) (bit : ℕ) → bit < 8 * length bytes → (k : ℕ)
    → has_bit (set bytes (bit / 8) (bit_or (get_or bytes (bit / 8) 0) (1 * 2 ^ (bit % 8) % 256))) k ≡ has_bit bytes k || k == bit
unfolding has_bit
has-set bytes bit within k = elim (eqb_tells k bit) [
  | inl same ↦
      let place : k / 8 ≡ bit / 8 = ap (λ n. n / 8) same.1 in
      let byte = bit_or (get_or bytes (bit / 8) 0) (1 * 2 ^ (bit % 8) % 256) in
      ap (λ n. n == 1)
      (changed bytes bit within byte k place ∙ ap (λ n. bit_at byte (n % 8)) same.1 ∙ bit_at_set_same w8 (get_or bytes (bit / 8) 0) (bit % 8) (in-byte bytes bit within))
      ∙ or-true (bit_at (get_or bytes (k / 8) 0) (k % 8) == 1) (k == bit) same.0
  | inr differ ↦
      let byte = bit_or (get_or bytes (bit / 8) 0) (1 * 2 ^ (bit % 8) % 256) in
      let here : bit_at (get_or (set bytes (bit / 8) byte) (k / 8) 0) (k % 8) ≡ bit_at (get_or bytes (k / 8) 0) (k % 8) =
      elim (cases_eq (k / 8) (bit / 8)) [
        | inl place ↦
            let other : k % 8 ≢ bit % 8 = λ e. differ.1 (omega (arith, e, place)) in
            changed bytes bit within byte k place
            ∙ bit_at_set_other w8 (get_or bytes (bit / 8) 0) (bit % 8) (in-byte bytes bit within) (k % 8) other
            ∙ was bytes bit within k place
        | inr other ↦ kept bytes bit within byte k other
      ] in
      ap (λ n. n == 1) here ∙ or-false (bit_at (get_or bytes (k / 8) 0) (k % 8) == 1) (k == bit) differ.0
]

pub has-clear : (bytes : List ℕ) (bit : ℕ) → bit < 8 * length bytes → (k : ℕ)
    → has_bit (set bytes (bit / 8) (bit_and (get_or bytes (bit / 8) 0) (255 - 1 * 2 ^ (bit % 8) % 256))) k ≡ has_bit bytes k && not (k == bit)
unfolding has_bit
has-clear bytes bit within k = elim (eqb_tells k bit) [
  | inl same ↦
      let place : k / 8 ≡ bit / 8 = ap (λ n. n / 8) same.1 in
      let byte = bit_and (get_or bytes (bit / 8) 0) (255 - 1 * 2 ^ (bit % 8) % 256) in
      ap (λ n. n == 1)
      (changed bytes bit within byte k place ∙ ap (λ n. bit_at byte (n % 8)) same.1 ∙ bit_at_clear_same w8 (get_or bytes (bit / 8) 0) (bit % 8) (in-byte bytes bit within))
      ∙ and-false (bit_at (get_or bytes (k / 8) 0) (k % 8) == 1) (k == bit) same.0
  | inr differ ↦
      let byte = bit_and (get_or bytes (bit / 8) 0) (255 - 1 * 2 ^ (bit % 8) % 256) in
      let here : bit_at (get_or (set bytes (bit / 8) byte) (k / 8) 0) (k % 8) ≡ bit_at (get_or bytes (k / 8) 0) (k % 8) =
      elim (cases_eq (k / 8) (bit / 8)) [
        | inl place ↦
            let other : k % 8 ≢ bit % 8 = λ e. differ.1 (omega (arith, e, place)) in
            let low : k % 8 < 8 = omega arith in
            changed bytes bit within byte k place
            ∙ bit_at_clear_other w8 (get_or bytes (bit / 8) 0) (bit % 8) (in-byte bytes bit within) (k % 8) low other
            ∙ was bytes bit within k place
        | inr other ↦ kept bytes bit within byte k other
      ] in
      ap (λ n. n == 1) here ∙ and-true (bit_at (get_or bytes (k / 8) 0) (k % 8) == 1) (k == bit) differ.0
]

-- no bit of zeros is set
pub has-none : (n k : ℕ) → has_bit (replicate n 0) k ≡ false
unfolding has_bit
has-none n k = ap (λ byte. bit_at byte (k % 8) == 1) zero ∙ ap (λ bit. bit == 1) (bit_at-zero (k % 8))
  where
    zero : get_or (replicate {A = ℕ} n 0) (k / 8) 0 ≡ 0
    zero = elim (cases_lt (k / 8) n) [
      | inl less ↦ get_or-replicate n (k / 8) 0 0 less
      | inr past ↦ get_or_past (replicate n 0) (k / 8) 0 (omega (arith, length-replicate {A = ℕ} n 0, past))
    ]
