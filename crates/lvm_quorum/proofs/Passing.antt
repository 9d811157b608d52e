-- A set of those below a number that pass a test.
use Rattle.std.proofs.Common.{◌≡◌, inl, inr, ℕ, ◌+◌, ◌≤◌, Bool, true, false, ◌&&◌, ◌||◌, sym, ap, ◌∙◌, arith}
use Rattle.std.specs.Prelude.{◌==◌, nat_lt}
use Rattle.std.proofs.lemmas.Bool.{cases_lt, or_right, and_from, ne_eqb, lt-ltb}
use Rattle.std.proofs.lemmas.Bool.Decides.{nat_tests, eqb_tells}
pub use Rattle.std.proofs.lemmas.Bool.{and_right as neither}
use Rattle.lvm_num.proofs.Booleans.{or_when_false}

-- ---- tests of numbers

pub or_itself : (b : Bool) (n : ℕ) → (b || n == n) ≡ true
or_itself b n = or_right b (n == n) (itself n)
  where
    itself : (n : ℕ) → (n == n) ≡ true
    itself n = grind (arith, nat_tests)

pub or_other : (b : Bool) (d n : ℕ) → (d ≡ n → ⊥) → (b || d == n) ≡ b
or_other b d n differ = or_when_false b (d == n) (ne_eqb d n differ)

pub lt_not : (d i : ℕ) → d ≡ i → nat_lt d i ≡ false
lt_not d i e = grind (arith, nat_tests)

pub lt_same : (d i : ℕ) → d ≡ i → nat_lt d (i + 1) ≡ true
lt_same d i e = grind (arith, nat_tests)

pub lt_other : (d i : ℕ) → (d ≡ i → ⊥) → nat_lt d (i + 1) ≡ nat_lt d i
lt_other d i e = grind (arith, nat_tests)

-- ---- sets

-- those below i that pass, of a set that is taken in order
abbrev pub PassBelow : (ℕ → Bool) → ℕ → (ℕ → Bool) → Type 0
PassBelow test i set = (d : ℕ) → set d ≡ nat_lt d i && test d

-- the next one passes, and goes in
pub one_taken : (test set more : ℕ → Bool) (i : ℕ) → PassBelow test i set → test i ≡ true → ((d : ℕ) → more d ≡ set d || d == i) → PassBelow test (i + 1) more
one_taken test set more i old own new d = elim (eqb_tells d i) [
  | inl same ↦ new d ∙ or_right (set d) (d == i) same.0 ∙ sym (and_from (nat_lt d (i + 1)) (test d) (lt_same d i same.1) (ap test same.1 ∙ own))
  | inr differ ↦ new d ∙ or_when_false (set d) (d == i) differ.0 ∙ old d ∙ ap (λ b. b && test d) (sym (lt_other d i differ.1))
]

-- or it doesn't, and the set stays
pub one_left : (test set : ℕ → Bool) (i : ℕ) → PassBelow test i set → test i ≡ false → PassBelow test (i + 1) set
one_left test set i old own d = elim (eqb_tells d i) [
  | inl same ↦ old d ∙ neither (nat_lt d i) (test d) (ap test same.1 ∙ own) ∙ sym (neither (nat_lt d (i + 1)) (test d) (ap test same.1 ∙ own))
  | inr differ ↦ old d ∙ ap (λ b. b && test d) (sym (lt_other d i differ.1))
]

-- where none passes behind a number, the set is of all that pass
pub all_pass : (test set : ℕ → Bool) (n : ℕ) → ((d : ℕ) → n ≤ d → test d ≡ false) → PassBelow test n set → (d : ℕ) → set d ≡ test d
all_pass test set n past pass d = elim (cases_lt d n) [
  | inl less ↦ pass d ∙ ap (λ (b : Bool). b && test d) (lt-ltb d n less)
  | inr more ↦ pass d ∙ neither (nat_lt d n) (test d) (past d (omega arith)) ∙ sym (past d (omega arith))
]
