-- A client takes the answer of a request of an earlier session, while this one is on.
use Rattle.std.specs.Prelude.{◌≡◌, ℕ, [], ◌∷◌, ◌++◌, Some, IsFalse}
use Rattle.lvm_vol.specs.Facts.{Request, Taken, same_request}
use Rattle.lvm_vol.specs.Legal.{TakenOnce}
use Rattle.lvm_invariant.specs.Found.{Votes}
use Rattle.lvm_invariant.specs.State.{Queued, ModelState}
use Rattle.lvm_invariant.specs.Good.{Good}

-- it has landed and isn't taken, and stands nowhere in the queue of this session
pub record TakesEarlier (s : ModelState) (q : Request) : Type 0 where
  pub once : TakenOnce s.facts q
  pub other : (i : ℕ) (r : Queued) → s.queue i ≡ Some r → IsFalse r.step → IsFalse (same_request (s.name i) q)

abbrev pub taken_earlier : ModelState → Request → ModelState
taken_earlier s q = record s { facts = s.facts ++ Taken q ∷ [] }

abbrev pub TakeEarlierKeeps : Type 0
TakeEarlierKeeps = (votes : Votes) (s : ModelState) (q : Request) → TakesEarlier s q → Good votes s → Good votes (taken_earlier s q)
