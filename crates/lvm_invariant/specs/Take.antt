-- A client takes the answer of its request, or a step of a copy leaves the queue.
use Rattle.std.specs.Prelude.{◌≡◌, ℕ, if◌then◌else◌, [], ◌∷◌, ◌++◌, Some, IsTrue}
use Rattle.lvm_vol.specs.Facts.{Taken}
use Rattle.lvm_invariant.specs.Found.{Votes}
use Rattle.lvm_invariant.specs.Updates.{without}
use Rattle.lvm_invariant.specs.State.{Queued, ModelState, has_landed}
use Rattle.lvm_invariant.specs.Good.{Good}

pub record TakesAnswerOf (s : ModelState) (i : ℕ) (r : Queued) : Type 0 where
  pub there : s.queue i ≡ Some r
  pub landed : IsTrue (has_landed r.phase)

-- a step leaves nothing in the history
abbrev pub taken : ModelState → ℕ → Queued → ModelState
taken s i r = record s { queue = without s.queue i; facts = if r.step then s.facts else s.facts ++ Taken (s.name i) ∷ [] }

abbrev pub TakeKeeps : Type 0
TakeKeeps = (votes : Votes) (s : ModelState) (i : ℕ) (r : Queued) → TakesAnswerOf s i r → Good votes s → Good votes (taken s i r)
