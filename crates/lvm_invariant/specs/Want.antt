-- More staleness is wanted, disks become missing, the copy that is brought up may end.
use Rattle.std.specs.Prelude.{◌≡◌, ◌⊎◌, ℕ, Bool, ◌&&◌, not, Option, Some, None, IsTrue, IsFalse}
use Rattle.lvm_num.specs.declared.place.Pp.{Pp}
use Rattle.lvm_invariant.specs.Found.{Votes}
use Rattle.lvm_invariant.specs.State.{Marks, ModelCopy, ModelState}
use Rattle.lvm_invariant.specs.Good.{Good}

-- another copy of the same logical partition is fresh, and its staleness isn't wanted
pub record Replaced (s : ModelState) (wanted : Marks) (c : Pp) : Type 0 where
  pub lv : ℕ
  pub block : ℕ
  pub other : Pp
  pub copy : IsTrue (s.is_copy lv block c)
  pub other_copy : IsTrue (s.is_copy lv block other)
  pub fresh : IsFalse (s.committed.value.stale other)
  pub kept : IsFalse (wanted.stale other)

-- More staleness is wanted, disks become missing, the open copy may end.
pub record Wants (s : ModelState) (wanted : Marks) (missing : ℕ → Bool) (open_copy : Option ModelCopy) : Type 0 where
  pub missing_still : (d : ℕ) → IsTrue (s.missing d) → IsTrue (missing d)
  pub still : (c : Pp) → IsTrue (s.wanted.stale c) → IsTrue (wanted.stale c)
  pub still_dirty : (lv : ℕ) → IsTrue (s.wanted.dirty lv) → IsTrue (wanted.dirty lv)
  -- what is added has another copy in its place, or is no copy that is there
  pub added : (c : Pp) → IsTrue (wanted.stale c) → IsTrue (s.wanted.stale c) ⊎ Replaced s wanted c ⊎ ((lv b : ℕ) → IsTrue (s.is_copy lv b c) → ⊥)
  -- an open copy that ends is stale by what is wanted
  pub open_same : (open_copy ≡ s.open_copy) ⊎ ((open_copy ≡ None) × ((o : ModelCopy) → s.open_copy ≡ Some o → IsTrue (wanted.stale o.target)))
  pub open_there : (o : ModelCopy) → open_copy ≡ Some o → IsFalse (missing o.target.disk)
  -- at every moment the staleness of each fresh copy on a missing disk is wanted where its partition has another usable copy
  pub behind : (lv b : ℕ) (c e : Pp) → IsTrue (s.is_copy lv b c) → IsFalse (s.committed.value.stale c) → IsTrue (missing c.disk)
      → IsTrue (s.is_copy lv b e) → IsTrue (not (s.committed.value.stale e) && not (missing e.disk)) → IsFalse (wanted.stale e) → IsTrue (wanted.stale c)

abbrev pub after_wants : ModelState → Marks → (ℕ → Bool) → Option ModelCopy → ModelState
after_wants s wanted missing open_copy = record s { wanted = wanted; missing = missing; open_copy = open_copy }

abbrev pub WantKeeps : Type 0
WantKeeps = (votes : Votes) (s : ModelState) (wanted : Marks) (missing : ℕ → Bool) (open_copy : Option ModelCopy)
    → Wants s wanted missing open_copy → Good votes s → Good votes (after_wants s wanted missing open_copy)
