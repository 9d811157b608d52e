-- Lists of which those are left that pass a test.
use Rattle.std.proofs.Common.{◌≡◌, inl, inr, ℕ, Bool, true, false, List, [], ◌∷◌, refl, sym, ap, ◌∙◌}
use Rattle.std.specs.Prelude.{IsTrue, ◌==◌, filter, if◌then◌else◌}
use Rattle.std.proofs.lemmas.Bool.{eq-eqb, eqb-true}
use Rattle.lvm_kept.specs.Group.{IsOneOf, IsSome}
pub use Rattle.lvm_num.proofs.AmongLemmas.{of_passing}
pub use Rattle.std.proofs.lemmas.Bool.{and_from as both_of}
pub use Rattle.lvm_num.proofs.Booleans.{first_holds as left_of, second_holds as right_of}
pub use Rattle.std.proofs.lemmas.Bool.{not-true as not_so}

-- where one passes, one is left
pub one_passes : {X : Type 0} (test : X → Bool) (list : List X) (x : X) → IsOneOf list x → IsTrue (test x) → IsSome (filter test list)
one_passes test [] x inside passes = inside
one_passes test (y ∷ ys) x (inl is) passes = here (test y) (ap test (sym is) ∙ passes)
  where
    here : (t : Bool) → IsTrue t → IsSome (if t then y ∷ filter test ys else filter test ys)
    here true e = tt
    here false e = absurd cc
one_passes test (y ∷ ys) x (inr inside) passes = there (test y) (one_passes test ys x inside passes)
  where
    there : (t : Bool) → IsSome (filter test ys) → IsSome (if t then y ∷ filter test ys else filter test ys)
    there true e = tt
    there false e = e

-- an id is this one, or it isn't
pub by_id : {X : Type 0} (id this : ℕ) → (id ≡ this → X) → ((id ≡ this → ⊥) → X) → X
by_id {X = X} id this same apart = by_test (id == this) refl
  where
    by_test : (t : Bool) → (id == this) ≡ t → X
    by_test true is = same (eqb-true id this is)
    by_test false is = apart (λ e. absurd (let f = eq-eqb id this e in let g = is in cc))
