-- A partition begins to be brought up that no volume has, is given up, or takes the place of a copy.
use Rattle.std.specs.Prelude.{◌≡◌, ◌⊎◌, ℕ, Bool, false, ◌||◌, if◌then◌else◌, Option, Some, None, option_map, IsTrue, IsFalse}
use Rattle.lvm_num.specs.declared.place.Pp.{Pp}
use Rattle.lvm_num.specs.Descriptor.{is_pp}
use Rattle.lvm_num.specs.Record.{Stamped}
use Rattle.lvm_invariant.specs.State.{Marks, ModelCopy, Beside, ModelState}
use Rattle.lvm_invariant.specs.Sound.{Complete}
use Rattle.lvm_invariant.specs.Found.{Votes}
use Rattle.lvm_invariant.specs.Good.{Good}
use Rattle.lvm_places.specs.Places.{CopiesOf, BlocksOf, Marking, placed, IsUnaimed, SeesRecords, MayPlace}

-- ---- in general

-- A good state is good with other copies.
abbrev pub PlacingKeeps : Type 0
PlacingKeeps = (votes : Votes) (s : ModelState) (copies : CopiesOf) (block : BlocksOf) (marking : Marking) (open_copy : Option ModelCopy) (beside : Option Beside)
    → MayPlace s copies block marking open_copy beside → Good votes s → Good votes (placed s copies block marking open_copy beside)

-- The statuses are seen as before but for this partition.
pub record AgreesBut (s : ModelState) (to : Pp) (k : Marking) : Type 0 where
  pub committed : (c : Pp) → IsFalse (is_pp c to) → k.committed.value.stale c ≡ s.committed.value.stale c
  pub dirty : (lv : ℕ) → k.committed.value.dirty lv ≡ s.committed.value.dirty lv
  pub flying : (u : Stamped Marks) → k.in_flight ≡ Some u
      → (w : Stamped Marks) × (s.in_flight ≡ Some w) × ((c : Pp) → IsFalse (is_pp c to) → u.value.stale c ≡ w.value.stale c) × ((lv : ℕ) → u.value.dirty lv ≡ w.value.dirty lv)
  pub none : k.in_flight ≡ None → s.in_flight ≡ None

-- ---- one copy more

-- with this partition as a copy of these blocks
abbrev pub with_place : CopiesOf → Pp → (ℕ → ℕ → Bool) → CopiesOf
with_place copies to its lv b c = if is_pp c to then its lv b else copies lv b c

-- which counts as stale
abbrev pub with_stale : Pp → Marks → Marks
with_stale to m = record m { stale = λ c. is_pp c to || m.stale c }

abbrev pub as_stale : Pp → Stamped Marks → Stamped Marks
as_stale to r = record r { value = with_stale to r.value }

-- so it is by each status
abbrev pub stale_marking : ModelState → Pp → Marking
stale_marking s to = record {
  status = λ d. option_map (as_stale to) (s.media.status d);
  committed = as_stale to s.committed;
  in_flight = option_map (as_stale to) s.in_flight;
  wanted = with_stale to s.wanted;
}

-- The partition is no copy and nothing goes there; the blocks are all those of one logical partition; nothing else changes on the media.
pub record Appears (s : ModelState) (to : Pp) (its : ℕ → ℕ → Bool) (block : BlocksOf) : Type 0 where
  pub nowhere : (lv b : ℕ) → IsFalse (s.is_copy lv b to)
  pub unaimed : IsUnaimed s to
  pub closed : s.open_copy ≡ None
  pub some : (lv b : ℕ) → IsTrue (its lv b) → (e : Pp) × IsTrue (s.is_copy lv b e)
  pub one : (lv b l d : ℕ) → IsTrue (its lv b) → IsTrue (its l d) → s.is_copy lv b ≡ s.is_copy l d
  pub all : (lv b l d : ℕ) (c : Pp) → IsTrue (s.is_copy lv b c) → IsTrue (s.is_copy l d c) → IsTrue (its l d) → IsTrue (its lv b)
  pub same : (lv b : ℕ) (c : Pp) → IsFalse (is_pp c to) → block lv b c ≡ s.media.block lv b c

abbrev pub appeared : ModelState → Pp → (ℕ → ℕ → Bool) → BlocksOf → ModelState
appeared s to its block = placed s (with_place s.is_copy to its) block (stale_marking s to) s.open_copy (Some (record { place = to; its = its }))

abbrev pub PlaceAppears : Type 0
PlaceAppears = (votes : Votes) (s : ModelState) (to : Pp) (its : ℕ → ℕ → Bool) (block : BlocksOf) → Appears s to its block → Good votes s → Good votes (appeared s to its block)

-- ---- one copy fewer

-- this partition is no copy
abbrev pub copies_without : CopiesOf → Pp → CopiesOf
copies_without copies to lv b c = if is_pp c to then false else copies lv b c

-- The partition counted as stale and no other copy is open; from now on the statuses may say of it what they say of any partition, but that its staleness is
-- wanted where it is committed or in flight.
pub record Goes (s : ModelState) (to : Pp) (k : Marking) : Type 0 where
  pub stale : IsTrue (s.committed.value.stale to)
  pub own : (o : ModelCopy) → s.open_copy ≡ Some o → IsTrue (is_pp o.target to)
  pub agrees : AgreesBut s to k
  pub wanted : (c : Pp) → IsFalse (is_pp c to) → k.wanted.stale c ≡ s.wanted.stale c
  pub wanted_dirty : (lv : ℕ) → k.wanted.dirty lv ≡ s.wanted.dirty lv
  pub stays : IsTrue (k.committed.value.stale to) → IsTrue (k.wanted.stale to)
  pub flies : (u : Stamped Marks) → k.in_flight ≡ Some u → IsTrue (u.value.stale to) → IsTrue (k.wanted.stale to)
  pub records : SeesRecords s (placed s (copies_without s.is_copy to) s.media.block k None None)

abbrev pub gone : ModelState → Pp → Marking → ModelState
gone s to k = placed s (copies_without s.is_copy to) s.media.block k None None

abbrev pub PlaceGoes : Type 0
PlaceGoes = (votes : Votes) (s : ModelState) (to : Pp) (k : Marking) → Goes s to k → Good votes s → Good votes (gone s to k)

-- ---- one in the place of another

-- The open copy is complete, and another copy of its logical partition goes. The statuses say that it is fresh; of the copies beside it those are wanted
-- stale that missing disks leave behind then.
pub record Replaces (s : ModelState) (from to : Pp) (k : Marking) : Type 0 where
  pub complete : Complete s to
  pub apart : IsFalse (is_pp to from)
  -- (it may stand on a disk without records, and then is no copy of the state)
  pub alone : (lv b : ℕ) → IsTrue (s.is_copy lv b from) → IsTrue (s.is_copy lv b to)
  pub agrees : AgreesBut s to k
  pub committed : IsFalse (k.committed.value.stale to)
  pub flying : (u : Stamped Marks) → k.in_flight ≡ Some u → IsFalse (u.value.stale to)
  pub fresh : IsFalse (k.wanted.stale to)
  -- more staleness is wanted of copies beside it alone
  pub still : (c : Pp) → IsFalse (is_pp c to) → IsTrue (s.wanted.stale c) → IsTrue (k.wanted.stale c)
  pub added : (c : Pp) → IsFalse (is_pp c to) → IsTrue (k.wanted.stale c) → IsTrue (s.wanted.stale c) ⊎ ((lv b : ℕ) → IsTrue (s.is_copy lv b c) → IsTrue (s.is_copy lv b to))
  pub wanted_dirty : (lv : ℕ) → IsTrue (s.wanted.dirty lv) → IsTrue (k.wanted.dirty lv)
  pub behind : (lv b : ℕ) (c : Pp) → IsTrue (s.is_copy lv b to) → IsTrue (s.is_copy lv b c) → IsFalse (is_pp c to) → IsFalse (is_pp c from)
      → IsFalse (s.committed.value.stale c) → IsTrue (s.missing c.disk) → IsTrue (k.wanted.stale c)
  pub records : SeesRecords s (placed s (copies_without s.is_copy from) s.media.block k None None)

abbrev pub replaced : ModelState → Pp → Marking → ModelState
replaced s from k = placed s (copies_without s.is_copy from) s.media.block k None None

abbrev pub PlaceIsTaken : Type 0
PlaceIsTaken = (votes : Votes) (s : ModelState) (from to : Pp) (k : Marking) → Replaces s from to k → Good votes s → Good votes (replaced s from k)
