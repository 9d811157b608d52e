-- The buffer of a session that goes out for its own transfers, and comes back.
use Rattle.std.proofs.Common.{◌≡◌, ℕ, zero, suc, ◌≤◌, Bool, true, false, List, [], ◌∷◌, length, replicate, refl, sym, ◌∙◌, ap, arith, get_or}
use Rattle.std.specs.Prelude.{slice_set}
use Rattle.std.proofs.lemmas.List.Elements.{All-head}
use Rattle.lvm_session.specs.passed.Pbuf.{IsOut, TakesLowest, AreAllOut}
use Rattle.lvm_core.specs.Committing.{with_one_out}

first_in : (b : Bool) (rest : List Bool) → b ∷ rest ≡ replicate (length (b ∷ rest)) false → b ≡ false
first_in b rest all = ap (λ (l : List Bool). get_or l 0 b) all

-- where all are in, the lowest is the first
pub first_taken : (pool new : List Bool) (number : ℕ) → 1 ≤ length pool → pool ≡ replicate (length pool) false → TakesLowest pool new number → (number ≡ 0) × (new ≡ with_one_out pool)
first_taken [] new number some all takes = absurd (omega (arith, some))
first_taken (b ∷ rest) new zero some all takes = (refl, takes.new_is)
first_taken (b ∷ rest) new (suc n) some all takes = absurd (let out = takes.lowest 0 (omega arith) in let inside = first_in b rest all in cc (out, inside))

pub not_all_out : (pool : List Bool) → 1 ≤ length pool → pool ≡ replicate (length pool) false → AreAllOut pool → ⊥
not_all_out [] some all out = absurd (omega (arith, some))
not_all_out (b ∷ rest) some all out = let is = All-head (λ (o : Bool). o ≡ true) b rest out in let inside = first_in b rest all in cc (is, inside)

-- it is out,
pub one_is_out : (pool : List Bool) (number : ℕ) → number ≡ 0 → 1 ≤ length pool → IsOut (with_one_out pool) number
one_is_out [] number is some = absurd (omega (arith, some))
one_is_out (b ∷ rest) number is some = ap (λ (n : ℕ). Rattle.std.specs.List.slice_get (with_one_out (b ∷ rest)) n) is

-- and once it is back all are in again
pub back_again : (pool : List Bool) (number : ℕ) → number ≡ 0 → pool ≡ replicate (length pool) false → slice_set (with_one_out pool) number false ≡ pool
back_again [] number is all = ap (λ (n : ℕ). slice_set (with_one_out []) n false) is
back_again (b ∷ rest) number is all = ap (λ (n : ℕ). slice_set (with_one_out (b ∷ rest)) n false) is ∙ ap (λ (o : Bool). o ∷ rest) (sym (first_in b rest all))
