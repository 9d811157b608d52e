-- What tests entail.
use Rattle.std.proofs.Common.{◌≡◌, ℕ, Bool, true, false, ◌&&◌, ◌||◌, not, if◌then◌else◌, List, [], ◌∷◌, refl, sym, ap, arith}
use Rattle.std.specs.Prelude.{nat_le}
use Rattle.std.specs.List.{list_any}
use Rattle.std.proofs.lemmas.Bool.Decides.{nat_tests}
pub use Rattle.std.proofs.lemmas.Bool.{and_parts as both, not-true as is_false}
use Rattle.lvm_num.proofs.Booleans.{not_so}

-- a test that comes to fail makes no conjunction hold
pub and_on : (a b c : Bool) → (b ≡ false → c ≡ false) → a && b ≡ false → a && c ≡ false
and_on true b c on is = on is
and_on false b c on is = refl

pub left_on : (a x y b c : Bool) → (b ≡ false → c ≡ false) → a || (x && y && not b) ≡ true → a || (x && y && not c) ≡ true
left_on true x y b c on is = refl
left_on false true true false c on is = ap not (on refl)
left_on false true true true c on is = not_so is
left_on false true false b c on is = not_so is
left_on false false y b c on is = not_so is

-- a test that fails at each element finds none
pub none_on : {A : Type 0} (t u : A → Bool) → ((x : A) → t x ≡ false → u x ≡ false) → (xs : List A) → list_any t xs ≡ false → list_any u xs ≡ false
none_on t u on [] none = refl
none_on t u on (x ∷ xs) none = by (t x) (u x) (on x) (λ e. none_on t u on xs e) none
  where
    by : (a b : Bool) → (a ≡ false → b ≡ false) → (list_any t xs ≡ false → list_any u xs ≡ false) → a || list_any t xs ≡ false → b || list_any u xs ≡ false
    by true b here rest e = not_so (sym e)
    by false true here rest e = not_so (sym (here refl))
    by false false here rest e = rest e

-- at most none or one, and one where none is allowed no more
pub most_on : (n : ℕ) (a b c : Bool) → (b ≡ false → c ≡ false) → nat_le n (if a || b then 0 else 1) ≡ true → nat_le n (if a || c then 0 else 1) ≡ true
most_on n true b c on e = e
most_on n false true true on e = e
most_on n false true false on e = at_most n e
  where
    at_most : (m : ℕ) → nat_le m 0 ≡ true → nat_le m 1 ≡ true
    at_most m few = grind (arith, nat_tests, few)
most_on n false false true on e = not_so (sym (on refl))
most_on n false false false on e = e

-- one that is to blame for less is still to blame
pub same_blame : (f u m w h a b : Bool) → (b ≡ true → a ≡ true) → f || (u && (m || w || h || b)) ≡ true → f || (u && (m || w || h || a)) ≡ true
same_blame true u m w h a b was e = refl
same_blame false false m w h a b was e = e
same_blame false true true w h a b was e = refl
same_blame false true false true h a b was e = refl
same_blame false true false false true a b was e = refl
same_blame false true false false false a b was e = was e
