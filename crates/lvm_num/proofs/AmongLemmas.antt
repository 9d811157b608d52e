-- What is one of a list, and what is left of a list by a test.
use Rattle.std.proofs.Common.{◌≡◌, ◌⊎◌, inl, inr, ⊎_elim, Bool, true, false, ◌||◌, List, [], ◌∷◌, ◌++◌, refl, ℕ, zero, suc, take, drop, sym, subst, arith, ap, ◌∙◌, Some, slice_get, ◌==◌, ◌+◌, ◌<◌, ◌≤◌}
use Rattle.std.specs.Prelude.{IsTrue, filter, if◌then◌else◌, All}
use Rattle.std.specs.List.{AllByRecursion, list_any, range_with_len}
use Rattle.std.proofs.lemmas.List.Elements.{All-tail}
use Rattle.std.proofs.lemmas.Bool.{false≢true, or_left, or_right, eq-eqb, eqb-true}
use Rattle.lvm_num.specs.Among.{IsOneOf}

-- ---- two lists, one after the other

pub one_of_left : {X : Type 0} (xs ys : List X) (x : X) → IsOneOf xs x → IsOneOf (xs ++ ys) x
one_of_left [] ys x is = absurd is
one_of_left (y ∷ xs) ys x (inl here) = inl here
one_of_left (y ∷ xs) ys x (inr there) = inr (one_of_left xs ys x there)

pub one_of_right : {X : Type 0} (xs ys : List X) (x : X) → IsOneOf ys x → IsOneOf (xs ++ ys) x
one_of_right [] ys x is = is
one_of_right (y ∷ xs) ys x is = inr (one_of_right xs ys x is)

pub one_of_either : {X : Type 0} (xs ys : List X) (x : X) → IsOneOf (xs ++ ys) x → IsOneOf xs x ⊎ IsOneOf ys x
one_of_either [] ys x is = inr is
one_of_either (y ∷ xs) ys x (inl here) = inl (inl here)
one_of_either (y ∷ xs) ys x (inr there) = ⊎_elim (λ l. inl (inr l)) (λ r. inr r) (one_of_either xs ys x there)

-- ---- a test

-- one of a list for which the test holds
pub any_one : {X : Type 0} (test : X → Bool) (xs : List X) → IsTrue (list_any test xs) → (x : X) × IsOneOf xs x × IsTrue (test x)
any_one {X} test [] is = absurd (false≢true is)
any_one {X} test (x ∷ xs) is = by_test (test x) refl (any_one test xs) is
  where
    by_test : (b : Bool) → test x ≡ b → (IsTrue (list_any test xs) → (y : X) × IsOneOf xs y × IsTrue (test y)) → IsTrue (b || list_any test xs) → (y : X) × IsOneOf (x ∷ xs) y × IsTrue (test y)
    by_test true here rest is = (x, inl refl, here)
    by_test false here rest is = let at = rest is in (at.0, inr at.1, at.2)

-- what holds of each that passes holds of all that are left
pub of_passing : {X : Type 0} (P : X → Type 0) (test : X → Bool) (xs : List X) → ((x : X) → IsOneOf xs x → IsTrue (test x) → P x) → AllByRecursion P (filter test xs)
of_passing P test [] each = tt
of_passing P test (x ∷ xs) each = by_test (test x) refl (of_passing P test xs (λ y inside. each y (inr inside)))
  where
    by_test : (t : Bool) → test x ≡ t → AllByRecursion P (filter test xs) → AllByRecursion P (if t then x ∷ filter test xs else filter test xs)
    by_test true e rest = (each x (inl refl) e, rest)
    by_test false e rest = rest

-- ---- a front, what is behind it, a place and a range

pub one_of_take : {X : Type 0} (n : ℕ) (xs : List X) (x : X) → IsOneOf (take n xs) x → IsOneOf xs x
one_of_take zero [] x is = is
one_of_take zero (y ∷ ys) x is = absurd is
one_of_take (suc n) [] x is = is
one_of_take (suc n) (y ∷ ys) x (inl e) = inl e
one_of_take (suc n) (y ∷ ys) x (inr there) = inr (one_of_take n ys x there)

pub one_of_drop : {X : Type 0} (n : ℕ) (xs : List X) (x : X) → IsOneOf (drop n xs) x → IsOneOf xs x
one_of_drop zero [] x is = is
one_of_drop zero (y ∷ ys) x is = is
one_of_drop (suc n) [] x is = is
one_of_drop (suc n) (y ∷ ys) x is = inr (one_of_drop n ys x is)

pub all_one : {X : Type 0} (P : X → Type 0) (xs : List X) (x : X) → All P xs → IsOneOf xs x → P x
all_one P [] x all is = absurd is
all_one P (y ∷ ys) x all (inl e) = subst P (sym e) (all 0 y (omega arith))
all_one P (y ∷ ys) x all (inr there) = all_one P ys x (All-tail P y ys all) there

pub one_any : {X : Type 0} (test : X → Bool) (xs : List X) (x : X) → IsOneOf xs x → IsTrue (test x) → IsTrue (list_any test xs)
one_any test [] x one is = absurd one
one_any test (y ∷ ys) x (inl here) is = or_left (test y) (list_any test ys) (ap test (sym here) ∙ is)
one_any test (y ∷ ys) x (inr there) is = or_right (test y) (list_any test ys) (one_any test ys x there is)

pub one_at : {X : Type 0} (l : List X) (k : ℕ) (x : X) → slice_get l k ≡ Some x → IsOneOf l x
one_at [] k x is = absurd (cc (is))
one_at (y ∷ l) zero x is = inl (sym (cc (is)))
one_at (y ∷ l) (suc k) x is = inr (one_at l k x is)

pub filter_one : {X : Type 0} (test : X → Bool) (xs : List X) (x : X) → IsOneOf (filter test xs) x → IsOneOf xs x × (test x ≡ true)
filter_one test [] x one = absurd one
filter_one test (y ∷ ys) x one = by (test y) refl one (filter_one test ys x)
  where
    by : (b : Bool) → test y ≡ b → IsOneOf (if b then y ∷ filter test ys else filter test ys) x → (IsOneOf (filter test ys) x → IsOneOf ys x × (test x ≡ true)) → IsOneOf (y ∷ ys) x × (test x ≡ true)
    by true is (inl here) rest = (inl here, ap test here ∙ is)
    by true is (inr there) rest = let r = rest there in (inr r.0, r.1)
    by false is there rest = let r = rest there in (inr r.0, r.1)

pub in_range : (first n k : ℕ) → first ≤ k → k < first + n → IsOneOf (range_with_len first n) k
in_range first zero k low high = absurd (omega (arith, low, high))
in_range first (suc n) k low high = by (first == k) refl (λ apart. in_range (first + 1) n k (omega (arith, low, apart)) (omega (arith, high)))
  where
    by : (b : Bool) → (first == k) ≡ b → ((first ≡ k → ⊥) → IsOneOf (range_with_len (first + 1) n) k) → IsOneOf (range_with_len first (suc n)) k
    by true is rest = inl (sym (eqb-true first k is))
    by false is rest = inr (rest (λ same. absurd (let no : true ≡ false = sym (eq-eqb first k same) ∙ is in cc no)))

pub of_range : (a n k : ℕ) → IsOneOf (range_with_len a n) k → k < a + n
of_range a zero k one = absurd one
of_range a (suc n) k (inl is) = omega arith
of_range a (suc n) k (inr there) = let r = of_range (a + 1) n k there in omega arith
