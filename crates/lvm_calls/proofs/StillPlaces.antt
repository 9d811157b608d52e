-- Requests at their places of the table.
use Rattle.std.proofs.Common.{◌≡◌, ℕ, zero, suc, List, [], ◌∷◌, Some, slice_get, slice_index_or}
use Rattle.lvm_session.specs.declared.open.Open.{Open}

-- what is read at a place is the request there
pub read_same : (os : List Open) (k : ℕ) (r o : Open) → slice_get os k ≡ Some o → r ≡ slice_index_or os k r → r ≡ o
read_same [] k r o there is = absurd (cc there)
read_same (x ∷ os) zero r o there is = cc (there, is)
read_same (x ∷ os) (suc k) r o there is = read_same os k r o there is
