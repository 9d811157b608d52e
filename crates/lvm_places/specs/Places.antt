-- Copies of which the places change while requests are open: what becomes of a session that is seen without bytes.
use Rattle.std.specs.Prelude.{◌≡◌, ◌⊎◌, ℕ, Bool, true, List, Option, Some, None, IsTrue}
use Rattle.lvm_num.specs.declared.place.Pp.{Pp}
use Rattle.lvm_num.specs.Record.{Stamped, stamp_lt}
use Rattle.lvm_invariant.specs.State.{Marks, Queued, ModelCopy, Beside, ModelState, is_past, Live}
use Rattle.lvm_invariant.specs.Sound.{Statuses, Behind}
use Rattle.lvm_invariant.specs.Found.{HasIt}

-- what a state says which copies there are
abbrev pub CopiesOf : Type 0
CopiesOf = ℕ → ℕ → Pp → Bool

-- what stands at their blocks
abbrev pub BlocksOf : Type 0
BlocksOf = ℕ → ℕ → Pp → List ℕ

-- how the statuses are seen: each disk's, the committed one, the one in flight, and what is wanted
pub record Marking : Type 0 where
  pub status : ℕ → Option (Stamped Marks)
  pub committed : Stamped Marks
  pub in_flight : Option (Stamped Marks)
  pub wanted : Marks

-- The state with these copies: this stands at their blocks, the statuses are seen so, this copy is open, and this partition is beside the group's copies.
abbrev pub placed : ModelState → CopiesOf → BlocksOf → Marking → Option ModelCopy → Option Beside → ModelState
placed s copies block marking open_copy beside = record s {
  media = record s.media { block = block; status = marking.status };
  is_copy = copies;
  committed = marking.committed;
  in_flight = marking.in_flight;
  wanted = marking.wanted;
  open_copy = open_copy;
  beside = beside;
}

-- no request that is admitted and hasn't landed goes to the partition
abbrev pub IsUnaimed : ModelState → Pp → Type 0
IsUnaimed s c = (i : ℕ) (r : Queued) → s.queue i ≡ Some r → IsTrue (is_past r.phase) → r.targets c ≡ None

-- It counted for nothing: no request goes there, and it was no live copy.
pub record CountsForNothing (s : ModelState) (c : Pp) : Type 0 where
  pub unaimed : IsUnaimed s c
  pub dead : (lv b : ℕ) → Live s lv b c → ⊥

-- A disk that has the committed status, or the one in flight, has it as it is seen now; each that it shows is earlier or one of the two; and the one in flight is later.
pub record SeesRecords (s new : ModelState) : Type 0 where
  pub have : (d : ℕ) → HasIt s d → HasIt new d
  pub only : (d : ℕ) (r : Stamped Marks) → new.media.status d ≡ Some r → (stamp_lt r.stamp new.committed.stamp ≡ true) ⊎ (r ≡ new.committed) ⊎ (new.in_flight ≡ Some r)
  pub newer : (u : Stamped Marks) → new.in_flight ≡ Some u → (stamp_lt new.committed.stamp u.stamp ≡ true) ⊎ (u ≡ new.committed)

-- The copies may be these: each live one was live, each logical partition keeps a copy, and what the statuses say of the copies is as it is to be.
pub record MayPlace (s : ModelState) (copies : CopiesOf) (block : BlocksOf) (marking : Marking) (open_copy : Option ModelCopy) (beside : Option Beside) : Type 0 where
  pub live : (lv b : ℕ) (c : Pp) → Live (placed s copies block marking open_copy beside) lv b c → Live s lv b c
  -- nothing changes on the media but where it counted for nothing
  pub same : (lv b : ℕ) (c : Pp) → (block lv b c ≡ s.media.block lv b c) ⊎ CountsForNothing s c
  pub dirty : (lv : ℕ) → IsTrue (s.committed.value.dirty lv) → IsTrue (marking.committed.value.dirty lv)
  pub had : (lv b : ℕ) (c : Pp) → IsTrue (copies lv b c) → (e : Pp) × IsTrue (s.is_copy lv b e)
  pub has : (lv b : ℕ) (c : Pp) → IsTrue (s.is_copy lv b c) → (e : Pp) × IsTrue (copies lv b e)
  pub owner : (lv b l d : ℕ) (c e : Pp) → IsTrue (copies lv b c) → IsTrue (copies l d c) → IsTrue (copies l d e) → IsTrue (copies lv b e)
  -- blocks of one logical partition stay so
  pub together : (lv b l d : ℕ) (c : Pp) → IsTrue (s.is_copy lv b c) → s.is_copy lv b ≡ s.is_copy l d → copies lv b ≡ copies l d
  pub statuses : Statuses (placed s copies block marking open_copy beside)
  pub behind : Behind (placed s copies block marking open_copy beside)
  pub records : SeesRecords s (placed s copies block marking open_copy beside)
