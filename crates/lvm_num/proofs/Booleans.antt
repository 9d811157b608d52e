-- What tests come to, and what follows of two that hold together or clash.
use Rattle.std.proofs.Common.{◌≡◌, ◌⊎◌, inl, inr, ℕ, ◌<◌, Bool, true, false, not, ◌&&◌, ◌||◌, Some, None, refl, sym, ap, ◌∙◌, arith, Option, suc}
use Rattle.std.specs.Prelude.{◌==◌, IsTrue, IsFalse, if◌then◌else◌, nat_lt}
use Rattle.std.proofs.lemmas.Bool.{eq-eqb, ne_eqb}
use Rattle.std.proofs.lemmas.Bool.Decides.{eqb_tells, nat_tests}

pub and_true : (b : Bool) → b && true ≡ b
and_true true = refl
and_true false = refl

pub and_false : (b : Bool) → b && false ≡ false
and_false true = refl
and_false false = refl

pub or_true : (b : Bool) → b || true ≡ true
or_true true = refl
or_true false = refl

pub or_false : (b : Bool) → b || false ≡ b
or_false true = refl
or_false false = refl

-- ---- both of two

pub first_holds : (a b : Bool) → a && b ≡ true → a ≡ true
first_holds true b holds = refl
first_holds false b holds = absurd cc

pub second_holds : (a b : Bool) → a && b ≡ true → b ≡ true
second_holds true b holds = holds
second_holds false b holds = absurd cc

pub three_hold : (a b c : Bool) → a ≡ true → b ≡ true → c ≡ true → (a && b && c) ≡ true
three_hold a b c one two last = ap (λ (t : Bool). t && b && c) one ∙ ap (λ (t : Bool). t && c) two ∙ last

pub four_hold : (a b c d : Bool) → a ≡ true → b ≡ true → c ≡ true → d ≡ true → (a && b && c && d) ≡ true
four_hold a b c d one two three last = ap (λ (t : Bool). t && b && c && d) one ∙ ap (λ (t : Bool). t && c && d) two ∙ ap (λ (t : Bool). t && d) three ∙ last

-- the first of three counts no longer
pub without_first : (a b c : Bool) → a && b && c ≡ true → true && b && c ≡ true
without_first true b c holds = holds
without_first false b c holds = absurd cc

-- ---- one without the other

pub first_alone : (a b : Bool) → a ≡ true → b ≡ false → a && not b ≡ true
first_alone true false holds fails = refl
first_alone true true holds fails = absurd cc
first_alone false b holds fails = absurd cc

pub second_with_first : (a b : Bool) → a ≡ true → a && not b ≡ false → b ≡ true
second_with_first true true holds fails = refl
second_with_first true false holds fails = absurd cc
second_with_first false b holds fails = absurd cc

pub first_with_second : (a b : Bool) → not a && b ≡ false → b ≡ true → a ≡ true
first_with_second true b fails holds = refl
first_with_second false true fails holds = absurd cc
first_with_second false false fails holds = absurd cc

pub both_fail : (a b : Bool) → IsTrue (not a && not b) → IsFalse a × IsFalse b
both_fail true b holds = absurd cc
both_fail false true holds = absurd cc
both_fail false false holds = (refl, refl)

-- ---- one of two

pub or_left : {a : Bool} (b : Bool) → a ≡ true → a || b ≡ true
or_left b holds = ap (λ t. t || b) holds

pub or_when_false : (a b : Bool) → b ≡ false → a || b ≡ a
or_when_false true b fails = refl
or_when_false false b fails = fails

pub first_fails : (a b : Bool) → a || b ≡ false → a ≡ false
first_fails true b fails = absurd cc
first_fails false b fails = refl

pub second_fails : (a b : Bool) → a || b ≡ false → b ≡ false
second_fails true b fails = absurd cc
second_fails false b fails = fails

pub neither_holds : (a b : Bool) {X : Type 0} → a ≡ false → a || b ≡ true → b ≡ false → X
neither_holds true b first either second = absurd cc
neither_holds false true first either second = absurd cc
neither_holds false false first either second = absurd cc

pub twice_fails : (a : Bool) {X : Type 0} → a || a ≡ true → a ≡ false → X
twice_fails true either fails = absurd cc
twice_fails false either fails = absurd cc

pub second_of_three : (a b : Bool) → a ≡ false → (a || b) || b ≡ true → b ≡ true
second_of_three true b fails either = absurd cc
second_of_three false true fails either = refl
second_of_three false false fails either = either

pub thrice_holds : (a : Bool) → (a || a) || a ≡ true → a ≡ true
thrice_holds true either = refl
thrice_holds false either = either

-- ---- what cannot be

pub clash : (b : Bool) → b ≡ true → b ≡ false → ⊥
clash true holds fails = absurd cc
clash false holds fails = absurd cc

pub clash_gives : {X : Type 0} (b : Bool) → b ≡ true → b ≡ false → X
clash_gives true holds fails = absurd cc
clash_gives false holds fails = absurd cc

pub not_so : {X : Type 0} → false ≡ true → X
not_so e = absurd cc

pub not_either : {X : Type 0} → true ≡ false → X
not_either e = absurd cc

-- ---- one by another

pub false_by : (a b : Bool) → (IsTrue a → IsTrue b) → IsFalse b → IsFalse a
false_by true b follows fails = clash_gives b (follows refl) fails
false_by false b follows fails = refl

pub same_answer : (a b : Bool) → (a ≡ true → b ≡ true) → (b ≡ true → a ≡ true) → a ≡ b
same_answer true b there back = sym (there refl)
same_answer false true there back = back refl
same_answer false false there back = refl

-- what is meant by one thing is one
pub same_meaning : {X : Type 0} (a b : Bool) → (IsTrue a → X) → (X → IsTrue a) → (IsTrue b → X) → (X → IsTrue b) → a ≡ b
same_meaning true b ax xa bx xb = sym (xb (ax refl))
same_meaning false true ax xa bx xb = xa (bx refl)
same_meaning false false ax xa bx xb = refl

-- ---- what stands by a test

pub if_itself : (b : Bool) → (if b then b else not b) ≡ true
if_itself true = refl
if_itself false = refl

pub same_by_if : (a b : Bool) → (if a then b else not b) ≡ true → a ≡ b
same_by_if true true e = refl
same_by_if true false e = absurd cc
same_by_if false true e = absurd cc
same_by_if false false e = refl

-- what stands behind a test is the one thing that stands there
pub some_if : {X : Type 0} (t : Bool) (x r : X) → (if t then Some x else None) ≡ Some r → r ≡ x
some_if true x r e = cc
some_if false x r e = absurd cc

pub none_if : {X : Type 0} (t : Bool) (x : X) → (if t then Some x else None) ≡ None → t ≡ false
none_if true x e = absurd cc
none_if false x e = refl

pub let_through : {X : Type 0} (test : Bool) (o : Option X) → test ≡ true → (if test then o else None) ≡ o
let_through true o e = refl
let_through false o e = absurd cc

pub passed_if : {X : Type 0} (test : Bool) (o : Option X) (r : X) → (if test then o else None) ≡ Some r → (test ≡ true) × (o ≡ Some r)
passed_if true o r e = (refl, e)
passed_if false o r e = absurd cc

-- one of the two places 0 and 1, and the other of them
pub place_below : (b : Bool) → (if b then 1 else 0) < 2
place_below true = omega arith
place_below false = omega arith

pub place_turns : (t : Bool) (slot : ℕ) → ((◌≡◌ {A = ℕ} (if t then 1 else 0) 0) × (slot ≡ 1)) ⊎ ((◌≡◌ {A = ℕ} (if t then 1 else 0) 1) × (slot ≡ 0)) → ◌≡◌ {A = ℕ} (if not t then 1 else 0) slot
place_turns true slot (inl is) = let wrong = is.0 in absurd (omega (arith, wrong))
place_turns true slot (inr is) = sym is.1
place_turns false slot (inl is) = sym is.1
place_turns false slot (inr is) = let wrong = is.0 in absurd (omega (arith, wrong))

-- ---- whether two numbers are the same

pub same_itself : (n : ℕ) → n == n ≡ true
same_itself n = eq-eqb n n refl

pub same_turned : (a b : ℕ) → (a == b) ≡ (b == a)
same_turned a b = elim (eqb_tells a b) [
  | inl is ↦ is.0 ∙ sym (eq-eqb b a (sym is.1))
  | inr isnt ↦ isnt.0 ∙ sym (ne_eqb b a (λ same. isnt.1 (sym same)))
]

pub none_below : (d : ℕ) → nat_lt d 0 ≡ false
none_below d = grind (arith, nat_tests)

pub not_first : (k : ℕ) → (suc k == 0) ≡ false
not_first k = grind (arith, nat_tests)
