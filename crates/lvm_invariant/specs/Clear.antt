-- The copy that is brought up is whole, and is no longer wanted stale.
use Rattle.std.specs.Prelude.{◌≡◌, ◌⊎◌, ℕ, IsTrue, IsFalse}
use Rattle.lvm_num.specs.declared.place.Pp.{Pp}
use Rattle.lvm_invariant.specs.Found.{Votes}
use Rattle.lvm_invariant.specs.State.{Marks, ModelState, is_usable}
use Rattle.lvm_invariant.specs.Good.{Good}
use Rattle.lvm_invariant.specs.Sound.{Complete}

-- the copy has passed all its track groups: it is no longer wanted stale
pub record Clears (s : ModelState) (wanted : Marks) (c : Pp) : Type 0 where
  pub complete : Complete s c
  pub stale : IsTrue (s.committed.value.stale c)
  pub still : (e : Pp) → IsTrue (s.wanted.stale e) → IsTrue (wanted.stale e) ⊎ (e ≡ c)
  pub added : (e : Pp) → IsTrue (wanted.stale e) → IsTrue (s.wanted.stale e)
  pub still_dirty : (lv : ℕ) → IsTrue (s.wanted.dirty lv) → IsTrue (wanted.dirty lv)
  pub behind : (lv b : ℕ) (d e : Pp) → IsTrue (s.is_copy lv b d) → IsFalse (s.committed.value.stale d) → IsTrue (s.missing d.disk)
      → IsTrue (s.is_copy lv b e) → IsTrue (is_usable s e) → IsFalse (wanted.stale e) → IsTrue (wanted.stale d)

abbrev pub ClearKeeps : Type 0
ClearKeeps = (votes : Votes) (s : ModelState) (wanted : Marks) (c : Pp) → Clears s wanted c → Good votes s → Good votes (record s { wanted = wanted })
