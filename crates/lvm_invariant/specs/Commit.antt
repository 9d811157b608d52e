-- The update in flight is committed.
use Rattle.std.specs.Prelude.{◌≡◌, ◌⊎◌, ℕ, Bool, Option, Some, IsTrue, IsFalse}
use Rattle.lvm_num.specs.Record.{Stamped}
use Rattle.lvm_invariant.specs.LandDone.{done}
use Rattle.lvm_invariant.specs.Found.{Votes}
use Rattle.lvm_invariant.specs.State.{Marks, ModelCopy, ModelState}
use Rattle.lvm_invariant.specs.Good.{Good}
use Rattle.lvm_invariant.specs.Want.{Wants, after_wants}

-- the update in flight is committed; an open copy that it clears is done if its staleness isn't wanted again
pub record Commits (s : ModelState) (u : Stamped Marks) (open_copy : Option ModelCopy) : Type 0 where
  pub flies : s.in_flight ≡ Some u
  pub open_same : (o : ModelCopy) → open_copy ≡ Some o → (s.open_copy ≡ Some o) × (IsTrue (u.value.stale o.target) ⊎ IsTrue (s.wanted.stale o.target))
  pub open_done : (o : ModelCopy) → s.open_copy ≡ Some o → (open_copy ≡ Some o) ⊎ IsFalse (u.value.stale o.target)

-- the disks that have it have votes enough to write, and the marks that it entails are made
pub record Commit (votes : Votes) (s : ModelState) (u : Stamped Marks) (has_it : ℕ → Bool) (done : Option ModelCopy) (wanted : Marks) (open_copy : Option ModelCopy) : Type 0 where
  pub commits : Commits s u done
  pub enough : IsTrue (votes.writes has_it)
  pub have : (d : ℕ) → IsTrue (has_it d) → s.media.status d ≡ Some u
  pub marks : Wants (record s { committed = u; open_copy = done }) wanted s.missing open_copy

abbrev pub after_commit : ModelState → Stamped Marks → Option ModelCopy → Marks → Option ModelCopy → ModelState
after_commit s u done wanted open_copy = after_wants (record s { committed = u; open_copy = done }) wanted s.missing open_copy

abbrev pub CommitKeeps : Type 0
CommitKeeps = (votes : Votes) (s : ModelState) (u : Stamped Marks) (has_it : ℕ → Bool) (done : Option ModelCopy) (wanted : Marks) (open_copy : Option ModelCopy)
    → Commit votes s u has_it done wanted open_copy → Good votes s → Good votes (after_commit s u done wanted open_copy)
