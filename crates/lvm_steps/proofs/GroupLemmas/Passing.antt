-- Lists of which those are left that pass a test.
use Rattle.std.proofs.Common.{◌≡◌, ◌⊎◌, inl, inr, Bool, true, false, List, [], ◌∷◌, refl, ap, sym, subst}
use Rattle.std.specs.Prelude.{IsTrue, filter, if◌then◌else◌}
use Rattle.std.specs.List.{AllByRecursion}
use Rattle.lvm_kept.specs.Group.{IsOneOf, IsSome}

-- what holds of all that pass holds of one that does
pub at_passing : {X : Type 0} (P : X → Type 0) (test : X → Bool) (xs : List X) → AllByRecursion P (filter test xs) → (x : X) → IsOneOf xs x → IsTrue (test x) → P x
at_passing P test [] all x one passes = absurd one
at_passing P test (y ∷ ys) all x one passes = by (test y) refl (λ rest there. at_passing P test ys rest x there passes) all one
  where
    by : (t : Bool) → test y ≡ t → (AllByRecursion P (filter test ys) → IsOneOf ys x → P x) → AllByRecursion P (if t then y ∷ filter test ys else filter test ys) → IsOneOf (y ∷ ys) x → P x
    by true is further all (inl here) = subst P (sym here) all.0
    by true is further all (inr there) = further all.1 there
    by false is further all (inl here) = absurd (let p = passes in let q = ap test here in cc)
    by false is further all (inr there) = further all there

-- one that is left is one of the list, and passes
pub some_passing : {X : Type 0} (test : X → Bool) (xs : List X) → IsSome (filter test xs) → (x : X) × IsOneOf xs x × IsTrue (test x)
some_passing test [] some = absurd some
some_passing test (y ∷ ys) some = by (test y) refl (λ s. some_passing test ys s) some
  where
    by : (t : Bool) → test y ≡ t → (IsSome (filter test ys) → (x : _) × IsOneOf ys x × IsTrue (test x)) → IsSome (if t then y ∷ filter test ys else filter test ys) → (x : _) × IsOneOf (y ∷ ys) x × IsTrue (test x)
    by true is further some = (y, inl refl, is)
    by false is further some = let rest = further some in (rest.0, inr rest.1, rest.2)

-- none is left, or one that passes
pub none_passing : {X : Type 0} (test : X → Bool) (xs : List X) → (filter test xs ≡ []) ⊎ ((x : X) × IsOneOf xs x × IsTrue (test x))
none_passing test [] = inl refl
none_passing test (y ∷ ys) = by (test y) refl (none_passing test ys)
  where
    by : (t : Bool) → test y ≡ t → ((filter test ys ≡ []) ⊎ ((x : _) × IsOneOf ys x × IsTrue (test x))) → ((if t then y ∷ filter test ys else filter test ys) ≡ []) ⊎ ((x : _) × IsOneOf (y ∷ ys) x × IsTrue (test x))
    by true is further = inr (y, inl refl, is)
    by false is (inl none) = inl none
    by false is (inr rest) = inr (rest.0, inr rest.1, rest.2)

-- where none is left, none passes
pub passes_none : {X : Type 0} (test : X → Bool) (xs : List X) (x : X) → filter test xs ≡ [] → IsOneOf xs x → IsTrue (test x) → ⊥
passes_none test [] x none one passes = one
passes_none test (y ∷ ys) x none one passes = by (test y) refl (λ rest there. passes_none test ys x rest there passes) none one
  where
    by : (t : Bool) → test y ≡ t → (filter test ys ≡ [] → IsOneOf ys x → ⊥) → (if t then y ∷ filter test ys else filter test ys) ≡ [] → IsOneOf (y ∷ ys) x → ⊥
    by true is further none one = absurd cc
    by false is further none (inl here) = absurd (let p = passes in let q = ap test here in cc)
    by false is further none (inr there) = further none there

-- where one passes, one is left
pub one_passes : {X : Type 0} (test : X → Bool) (xs : List X) (x : X) → IsOneOf xs x → test x ≡ true → IsSome (filter test xs)
one_passes test [] x one passes = absurd one
one_passes test (y ∷ ys) x one passes = by (test y) refl (λ there. one_passes test ys x there passes) one
  where
    by : (t : Bool) → test y ≡ t → (IsOneOf ys x → IsSome (filter test ys)) → IsOneOf (y ∷ ys) x → IsSome (if t then y ∷ filter test ys else filter test ys)
    by true is further one = tt
    by false is further (inl here) = absurd (let p = passes in let q = ap test here in cc)
    by false is further (inr there) = further there
