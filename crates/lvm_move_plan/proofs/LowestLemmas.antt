-- The lowest partition of a member that passes a test, one after the other.
use Rattle.std.proofs.Common.{◌≡◌, ℕ, zero, suc, ◌+◌, ◌<◌, Bool, true, false, map, Option, Some, None, if◌then◌else◌, refl, sym, ap, ◌∙◌, arith}
use Rattle.std.specs.Prelude.{find}
use Rattle.std.specs.List.{range_with_len}
use Rattle.lvm_num.specs.declared.place.Pp.{Pp}

module _ (p : Pp → Bool) (disk : ℕ) where
  abbrev at : ℕ → Pp
  at k = record { disk = disk; pp = k }

  abbrev first : ℕ → ℕ → Option Pp
  first a n = find p (map at (range_with_len a n))

  none_next : (a n : ℕ) → first a n ≡ None → p (at (a + n)) ≡ false → first a (suc n) ≡ None
  none_next a zero none isnt = ap (λ (b : Bool). if b then Some (at a) else None) (ap (λ (k : ℕ). p (at k)) (let same : a ≡ a + zero = omega arith in same) ∙ isnt)
  none_next a (suc n) none isnt = by (λ rest. none_next (a + 1) n rest (ap (λ (k : ℕ). p (at k)) (let same : (a + 1) + n ≡ a + suc n = omega arith in same) ∙ isnt)) (p (at a)) refl
    where
      by : (first (a + 1) n ≡ None → first (a + 1) (suc n) ≡ None) → (b : Bool) → p (at a) ≡ b → first a (suc (suc n)) ≡ None
      by on true is = absurd (let no : Some (at a) ≡ None = sym (ap (λ (t : Bool). if t then Some (at a) else first (a + 1) n) is) ∙ none in cc no)
      by on false is =
          ap (λ (t : Bool). if t then Some (at a) else first (a + 1) (suc n)) is ∙ on (sym (ap (λ (t : Bool). if t then Some (at a) else first (a + 1) n) is) ∙ none)

  here_next : (a n m : ℕ) → n < m → first a n ≡ None → p (at (a + n)) ≡ true → first a m ≡ Some (at (a + n))
  here_next a n zero lt none is = absurd (omega (arith, lt))
  here_next a zero (suc m) lt none is =
      let same : a + zero ≡ a = omega arith in
      ap (λ (b : Bool). if b then Some (at a) else first (a + 1) m) (ap (λ (k : ℕ). p (at k)) (sym same) ∙ is) ∙ ap (λ (k : ℕ). Some (at k)) (sym same)
  here_next a (suc n) (suc m) lt none is =
      let same : (a + 1) + n ≡ a + suc n = omega arith in
      by (λ rest. here_next (a + 1) n m (omega (arith, lt)) rest (ap (λ (k : ℕ). p (at k)) same ∙ is) ∙ ap (λ (k : ℕ). Some (at k)) same) (p (at a)) refl
    where
      by : (first (a + 1) n ≡ None → first (a + 1) m ≡ Some (at (a + suc n))) → (b : Bool) → p (at a) ≡ b → first a (suc m) ≡ Some (at (a + suc n))
      by on true so = absurd (let no : Some (at a) ≡ None = sym (ap (λ (t : Bool). if t then Some (at a) else first (a + 1) n) so) ∙ none in cc no)
      by on false so =
          ap (λ (t : Bool). if t then Some (at a) else first (a + 1) m) so ∙ on (sym (ap (λ (t : Bool). if t then Some (at a) else first (a + 1) n) so) ∙ none)

  -- none of them does, nor the next one
  pub none_more : (n : ℕ) → first 0 n ≡ None → p (at n) ≡ false → first 0 (n + 1) ≡ None
  none_more n none isnt = let next : n + 1 ≡ suc n = omega arith in ap (first 0) next ∙ none_next 0 n none (ap (λ (k : ℕ). p (at k)) (let same : 0 + n ≡ n = omega arith in same) ∙ isnt)

  -- the next one does, which is the first
  pub here_first : (n m : ℕ) → n < m → first 0 n ≡ None → p (at n) ≡ true → first 0 m ≡ Some (at n)
  here_first n m lt none is = let same : 0 + n ≡ n = omega arith in here_next 0 n m lt none (ap (λ (k : ℕ). p (at k)) same ∙ is) ∙ ap (λ (k : ℕ). Some (at k)) same
