-- An update of the status ends.
use Rattle.std.specs.Prelude.{◌≡◌, ℕ, Some, None, IsFalse}
use Rattle.lvm_invariant.specs.Found.{Votes}
use Rattle.lvm_invariant.specs.State.{ModelState}
use Rattle.lvm_invariant.specs.Good.{Good}

-- It is committed, and none of its writes is out. One that ended with too few votes stays in flight: some disk holds it, and a quorum may find it.
pub record UpdateEnds (s : ModelState) : Type 0 where
  pub committed : s.in_flight ≡ Some s.committed
  pub ended : (d : ℕ) → IsFalse (s.status_flying d)

abbrev pub EndUpdateKeeps : Type 0
EndUpdateKeeps = (votes : Votes) (s : ModelState) → UpdateEnds s → Good votes s → Good votes (record s { in_flight = None })
