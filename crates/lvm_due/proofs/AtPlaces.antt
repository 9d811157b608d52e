-- Requests at their places of the table.
use Rattle.std.proofs.Common.{◌≡◌, ◌<◌, ℕ, zero, suc, List, [], ◌∷◌, Some, length, slice_get, slice_index_or, sym, ap, subst, arith}
use Rattle.std.specs.List.{AllByRecursion}
use Rattle.lvm_due.specs.passed.Session.{Open}

-- what holds of each holds of the one at a place
pub at_place : (P : Open → Type 0) (os : List Open) (k : ℕ) (o : Open) → AllByRecursion P os → slice_get os k ≡ Some o → P o
at_place P [] k o all there = absurd (cc there)
at_place P (x ∷ os) zero o all there = let same : x ≡ o = cc there in subst P same all.0
at_place P (x ∷ os) (suc k) o all there = at_place P os k o all.1 there

-- what is read at a place is the request there
pub read_same : (os : List Open) (k : ℕ) (r o : Open) → slice_get os k ≡ Some o → r ≡ slice_index_or os k r → r ≡ o
read_same [] k r o there is = absurd (cc there)
read_same (x ∷ os) zero r o there is = cc (there, is)
read_same (x ∷ os) (suc k) r o there is = read_same os k r o there is

-- and it stands there
pub stands : (os : List Open) (k : ℕ) (r : Open) → k < length os → r ≡ slice_index_or os k r → slice_get os k ≡ Some r
stands [] k r within is = absurd (omega (arith, within))
stands (x ∷ os) zero r within is = ap Some (sym is)
stands (x ∷ os) (suc k) r within is = stands os k r (omega (arith, within)) is
