-- A stale copy begins to be brought up.
use Rattle.std.specs.Prelude.{◌≡◌, ℕ, Some, None, IsTrue, IsFalse}
use Rattle.lvm_invariant.specs.Found.{Votes}
use Rattle.lvm_invariant.specs.State.{ModelCopy, ModelState}
use Rattle.lvm_invariant.specs.Good.{Good}

-- a stale copy on a disk that isn't missing begins to be brought up
pub record Opens (s : ModelState) (o : ModelCopy) : Type 0 where
  pub none : s.open_copy ≡ None
  pub there : IsFalse (s.missing o.target.disk)
  pub stale : IsTrue (s.committed.value.stale o.target)
  pub passed : (lv g : ℕ) → IsFalse (o.passed lv g)

abbrev pub OpenKeeps : Type 0
OpenKeeps = (votes : Votes) (s : ModelState) (o : ModelCopy) → Opens s o → Good votes s → Good votes (record s { open_copy = Some o })
