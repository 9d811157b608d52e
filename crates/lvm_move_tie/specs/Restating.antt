-- What becomes of a session where its statuses are written anew: another one is committed, and disks have become missing.
use Rattle.std.specs.Prelude.{◌≡◌, ◌⊎◌, ℕ, Bool, true, ◌&&◌, not, Option, Some, None, IsTrue, IsFalse}
use Rattle.lvm_num.specs.declared.place.Pp.{Pp}
use Rattle.lvm_num.specs.Record.{Stamped, stamp_lt}
use Rattle.lvm_invariant.specs.State.{Marks, ModelState, is_settled_stale}
use Rattle.lvm_invariant.specs.Found.{Votes}
use Rattle.lvm_invariant.specs.Good.{Good}

-- what the disks show, what is committed and wanted, and which disks are missing
pub record Restatement : Type 0 where
  pub status : ℕ → Option (Stamped Marks)
  pub committed : Stamped Marks
  pub wanted : Marks
  pub missing : ℕ → Bool

-- The state with this: no update is in flight, and no copy is open.
abbrev pub restated : ModelState → Restatement → ModelState
restated s r = record s {
  media = record s.media { status = r.status };
  committed = r.committed;
  in_flight = None;
  wanted = r.wanted;
  missing = r.missing;
  open_copy = None;
}

-- What is stale and dirty stays so, each logical partition keeps a copy that is fresh, and what missing disks leave behind is wanted stale. Disks with votes enough
-- show what is committed, and none a later status.
pub record MayRestate (votes : Votes) (s : ModelState) (r : Restatement) : Type 0 where
  pub still : (c : Pp) → IsTrue (is_settled_stale s c) → IsTrue (r.committed.value.stale c)
  pub dirty : (lv : ℕ) → IsTrue (s.committed.value.dirty lv) → IsTrue (r.committed.value.dirty lv)
  pub gone : (d : ℕ) → IsTrue (s.missing d) → IsTrue (r.missing d)
  pub kept : (lv b : ℕ) (c : Pp) → IsTrue (s.is_copy lv b c) → (e : Pp) × IsTrue (s.is_copy lv b e) × IsFalse (r.committed.value.stale e) × IsFalse (r.wanted.stale e)
  pub wants : (c : Pp) → IsTrue (r.committed.value.stale c) → IsTrue (r.wanted.stale c)
  pub wants_dirty : (lv : ℕ) → IsTrue (r.committed.value.dirty lv) → IsTrue (r.wanted.dirty lv)
  pub behind : (lv b : ℕ) (c e : Pp) → IsTrue (s.is_copy lv b c) → IsFalse (r.committed.value.stale c) → IsTrue (r.missing c.disk)
      → IsTrue (s.is_copy lv b e) → IsTrue (not (r.committed.value.stale e) && not (r.missing e.disk)) → IsFalse (r.wanted.stale e) → IsTrue (r.wanted.stale c)
  pub set : ℕ → Bool
  pub enough : IsTrue (votes.writes set)
  pub have : (d : ℕ) → IsTrue (set d) → r.status d ≡ Some r.committed
  pub only : (d : ℕ) (m : Stamped Marks) → r.status d ≡ Some m → (stamp_lt m.stamp r.committed.stamp ≡ true) ⊎ (m ≡ r.committed)

-- A good state is good then.
abbrev pub RestatingKeeps : Type 0
RestatingKeeps = (votes : Votes) (s : ModelState) (r : Restatement) → MayRestate votes s r → Good votes s → Good votes (restated s r)
