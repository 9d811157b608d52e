-- What a change of what is missing entails.
use Rattle.std.specs.Prelude.{◌≡◌, ℕ, Bool, true, false, not, List, Some, None, IsTrue, IsFalse}
use Rattle.lvm_num.specs.declared.place.Pp.{Pp}
use Rattle.lvm_num.specs.Disks.{Disks}
use Rattle.lvm_num.specs.Descriptor.{IsValid, is_member}
use Rattle.lvm_vol.specs.Facts.{Fact}
use Rattle.lvm_session.specs.declared.bringing.OpenCopy.{OpenCopy}
use Rattle.lvm_session.specs.State.{Core, is_there}
use Rattle.lvm_session.specs.Judging.{is_running}
use Rattle.lvm_session.specs.Bringing.{copy_ends, is_whole}
use Rattle.lvm_session.specs.Marks.{Reviews}
use Rattle.lvm_invariant.specs.State.{ModelCopy, ModelState}
use Rattle.lvm_invariant.specs.Want.{Wants}
use Rattle.lvm_crash.specs.Session.{HasVolumes, is_beside, marks_of}
use Rattle.lvm_tie.specs.Near.{open_after}

-- ---- what is asked of the state

-- the state sees these statuses, and these disks are missing now
pub record SeesMarks (core : Core) (v : ModelState) (missing : ℕ → Bool) : Type 0 where
  pub committed : v.committed.value ≡ marks_of v.beside core.status.committed
  pub wanted : v.wanted ≡ marks_of v.beside core.status.wanted
  pub missing_is : (d : ℕ) → missing d ≡ not (is_there core d)
  pub still : (d : ℕ) → IsTrue (v.missing d) → IsTrue (missing d)

-- each logical partition has a copy that is fresh by what is committed and what is wanted
abbrev pub KeepsFresh : ModelState → Type 0
KeepsFresh v = (lv b : ℕ) (c : Pp) → IsTrue (v.is_copy lv b c) → (e : Pp) × IsTrue (v.is_copy lv b e) × IsFalse (v.committed.value.stale e) × IsFalse (v.wanted.stale e)

-- a partition is a copy of one logical partition
abbrev pub HasOwners : ModelState → Type 0
HasOwners v = (lv b l d : ℕ) (c e : Pp) → IsTrue (v.is_copy lv b c) → IsTrue (v.is_copy l d c) → IsTrue (v.is_copy l d e) → IsTrue (v.is_copy lv b e)

-- The copy that runs is the one that the state sees open, on a member. As it is seen, it is wanted stale until it is whole, and then stale by what is committed; the
-- destination of a move is seen so whatever the statuses say.
pub record IsBrought (core : Core) (v : ModelState) (c : OpenCopy) : Type 0 where
  pub target : (o : ModelCopy) → v.open_copy ≡ Some o → o.target ≡ c.pp
  pub member : is_member core.descriptor c.pp.disk ≡ true
  pub there : (lv : ℕ) × (b : ℕ) × IsTrue (v.is_copy lv b c.pp)
  pub part : is_whole core c ≡ false → IsTrue (v.wanted.stale c.pp)
  pub whole : is_whole core c ≡ true → IsTrue (v.committed.value.stale c.pp)
  pub beside : IsTrue c.moves → IsTrue (is_beside v.beside c.pp)

-- ---- what is wanted

-- Where the state sees the marks and the copy that runs as they are before a review, it wants what the review wants, and its copy is open no more where it ends.
abbrev pub ReviewIsWanted : Type 0
ReviewIsWanted =
    (core new : Core) (v : ModelState) (missing : ℕ → Bool) (facts : List Fact) (members : Disks) → IsValid core.descriptor → HasVolumes v facts core.descriptor members
    → ((d : ℕ) → IsTrue (is_there core d) → IsTrue (members d)) → SeesMarks core v missing → KeepsFresh v → HasOwners v
    → ((c : OpenCopy) → core.copy ≡ Some c → is_running c ≡ true → IsBrought core v c) → (((c : OpenCopy) → core.copy ≡ Some c → is_running c ≡ true → ⊥) → v.open_copy ≡ None)
    → Reviews core new → Wants v (marks_of v.beside new.status.wanted) missing (open_after (copy_ends core) v.open_copy)
