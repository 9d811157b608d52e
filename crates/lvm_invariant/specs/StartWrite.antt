-- The first transfer of a write starts.
use Rattle.std.specs.Prelude.{◌≡◌, ◌⊎◌, ℕ, Some, IsTrue, IsFalse}
use Rattle.lvm_num.specs.declared.place.Pp.{Pp}
use Rattle.lvm_num.specs.Geometry.{track_group_of}
use Rattle.lvm_invariant.specs.Found.{Votes}
use Rattle.lvm_invariant.specs.Updates.{staged, with_req}
use Rattle.lvm_invariant.specs.State.{Groups, Stage, Todo, Flying, Ready, Going, Queued, ModelState, is_settled_stale, is_usable, HasPassed}
use Rattle.lvm_invariant.specs.Good.{Good}

-- what a write needs for its first transfer
pub record MayStartWrite (s : ModelState) (i : ℕ) (r : Queued) (c : Pp) : Type 0 where
  pub there : s.queue i ≡ Some r
  pub write : IsTrue r.write
  pub ready : r.phase ≡ Ready
  pub target : r.targets c ≡ Some Todo
  pub unstarted : (e : Pp) (stage : Stage) → r.targets e ≡ Some stage → stage ≡ Todo
  -- its logical partition has a usable copy, and its targets are the usable copies and the one that is brought up and has passed it
  pub source : Pp
  pub source_copy : IsTrue (s.is_copy r.lv r.first source)
  pub source_usable : IsTrue (is_usable s source)
  pub usable : (e : Pp) (stage : Stage) → r.targets e ≡ Some stage → IsTrue (is_usable s e) ⊎ HasPassed s r.lv (track_group_of r.first) e
  pub each : (e : Pp) → IsTrue (s.is_copy r.lv r.first e) → IsTrue (is_usable s e) ⊎ HasPassed s r.lv (track_group_of r.first) e → r.targets e ≡ Some Todo
  -- nothing is pending
  pub quiet : (e : Pp) → IsTrue (s.is_copy r.lv r.first e) → IsTrue (s.wanted.stale e) → IsTrue (is_settled_stale s e)
  -- the notes on the disks of its targets name its track group
  pub named : IsTrue (s.is_active r.lv) → IsTrue r.several → (e : Pp) (stage : Stage) → r.targets e ≡ Some stage
      → IsTrue (s.home_note e.disk r.lv (track_group_of r.first)) × ((n : Groups) → s.flying_note e.disk ≡ Some n → IsTrue (n r.lv (track_group_of r.first)))
  -- a passive volume is dirty
  pub dirty : IsTrue (s.is_passive r.lv) → IsTrue r.several → IsTrue (s.committed.value.dirty r.lv)
  pub single : IsFalse r.several → (e f : Pp) (x y : Stage) → r.targets e ≡ Some x → r.targets f ≡ Some y → e ≡ f

abbrev pub going : Queued → Pp → Queued
going r c = record r { phase = Going; targets = staged r.targets c Flying }

abbrev pub started_first : ModelState → ℕ → Queued → Pp → ModelState
started_first s i r c = with_req s i (going r c)

abbrev pub StartWriteKeeps : Type 0
StartWriteKeeps = (votes : Votes) (s : ModelState) (i : ℕ) (r : Queued) (c : Pp) → MayStartWrite s i r c → Good votes s → Good votes (started_first s i r c)
