-- Small facts on tests, values and what is known of a block.
use Rattle.std.proofs.Common.{◌≡◌, inl, inr, ℕ, Bool, true, false, ◌&&◌, ◌||◌, List, [], ◌∷◌, ◌++◌, Option, Some, None, refl, sym, ap, subst}
use Rattle.std.specs.Prelude.{IsTrue, map, find, if◌then◌else◌, option_map, IsSomeAnd}
use Rattle.lvm_num.specs.Buffer.{Sector}
use Rattle.lvm_vol.specs.Facts.{Request, IsInList, same_request, block_of}
use Rattle.lvm_invariant.specs.State.{write_in}
use Rattle.lvm_vol.specs.May.{is_some_open}
pub use Rattle.std.proofs.lemmas.Bool.{and_from as both_of, and_right as and_right_false, or_left}
pub use Rattle.lvm_num.proofs.Booleans.{first_holds as left_of, second_holds as right_of}
use Rattle.lvm_num.proofs.Lists.{some_map}

-- the value is one of those known
abbrev pub IsIn : Option (List (List ℕ)) → List ℕ → Type 0
IsIn values value = IsSomeAnd values (λ vs. IsInList value vs)

pub or_right : (a b c : Bool) → IsTrue b → IsTrue c → IsTrue (a || (b && c))
or_right true b c h k = refl
or_right false true c h k = k
or_right false false c h k = absurd cc

in_left : (xs ys : List (List ℕ)) (value : List ℕ) → IsInList value xs → IsInList value (xs ++ ys)
in_left [] ys value none = absurd none
in_left (x ∷ xs) ys value (inl here) = inl here
in_left (x ∷ xs) ys value (inr there) = inr (in_left xs ys value there)

pub in_right : (xs ys : List (List ℕ)) (value : List ℕ) → IsInList value ys → IsInList value (xs ++ ys)
in_right [] ys value h = h
in_right (x ∷ xs) ys value h = inr (in_right xs ys value h)

-- what was allowed is allowed with more values
pub in_more : (may : Option (List (List ℕ))) (more : List (List ℕ)) (value : List ℕ) → IsIn may value → IsIn (option_map (λ known. known ++ more) may) value
in_more None more value h = absurd h
in_more (Some xs) more value h = in_left xs more value h

pub in_added : (may : Option (List (List ℕ))) (more xs : List (List ℕ)) (value : List ℕ) → may ≡ Some xs → IsInList value more → IsIn (option_map (λ known. known ++ more) may) value
in_added may more xs value e h = subst (λ (m : Option (List (List ℕ))). IsIn (option_map (λ known. known ++ more) m) value) (sym e) (in_right xs more value h)

-- what is found in a list is one of its own
found_in : (test : Request → Bool) (value : Request → Sector) (ws : List Request) (w : Request) → find test ws ≡ Some w → IsInList (value w) (map value ws)
found_in test value [] w e = absurd cc
found_in test value (x ∷ ws) w e = by_test (test x) x w ws (found_in test value ws w) e
  where
    same : (x w : Request) → Some x ≡ Some w → x ≡ w
    same x w k = cc

    by_test : (t : Bool) (x w : Request) (ws : List Request) → (find test ws ≡ Some w → IsInList (value w) (map value ws)) → (if t then Some x else find test ws) ≡ Some w → IsInList (value w) (map value (x ∷ ws))
    by_test true x w ws later h = inl (ap value (same x w h))
    by_test false x w ws later h = inr (later h)

found_some : (test : Request → Bool) (ws : List Request) (w : Request) → find test ws ≡ Some w → IsTrue (is_some_open ws)
found_some test [] w e = absurd cc
found_some test (x ∷ ws) w e = refl

-- what the open write of a name brings is one of the values that open writes bring
pub brought_in : (b : ℕ) (writes : List Request) (request : Request) (x : Sector) → write_in b writes request ≡ Some x → IsInList x (map (λ (w : Request). block_of w.blocks w.at b) writes)
brought_in b writes request x is =
    let w = some_map (λ (w : Request). block_of w.blocks w.at b) (find (same_request request) writes) x is in
    subst (λ (v : Sector). IsInList v (map (λ (w : Request). block_of w.blocks w.at b) writes)) w.2 (found_in (same_request request) (λ (w : Request). block_of w.blocks w.at b) writes w.0 w.1)

pub some_open : (b : ℕ) (writes : List Request) (request : Request) (x : Sector) → write_in b writes request ≡ Some x → IsTrue (is_some_open writes)
some_open b writes request x is = let w = some_map (λ (w : Request). block_of w.blocks w.at b) (find (same_request request) writes) x is in found_some (same_request request) writes w.0 w.1
