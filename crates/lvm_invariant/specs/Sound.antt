-- What is true of a session at every moment, from which it follows that each crash image agrees with the history.
use Rattle.std.specs.Prelude.{◌≡◌, ◌⊎◌, ℕ, ◌<◌, Bool, true, false, ◌&&◌, if◌then◌else◌, List, Option, Some, None, IsTrue, IsFalse}
use Rattle.lvm_num.specs.declared.place.Pp.{Pp}
use Rattle.lvm_num.specs.Geometry.{track_group_of}
use Rattle.lvm_num.specs.Record.{Stamped}
use Rattle.lvm_vol.specs.May.{is_off, IsValue}
use Rattle.lvm_invariant.specs.State.{write_of, Marks, Stage, Well, Queued, ModelCopy, ModelState, covers, request_of, has_landed, is_past, is_pinning, is_usable, Live, Named, Started, told}

-- in mode passive: the disk of each is missing, and the committed status calls the volume dirty
pub record DifferDirty (s : ModelState) (lv b : ℕ) : Type 0 where
  pub passive : IsTrue (s.is_passive lv)
  pub missing : (c : Pp) → Live s lv b c → IsTrue (s.missing c.disk)
  pub dirty : IsTrue (s.committed.value.dirty lv)

-- Why live copies may differ at a block where no write is under way: in mode active, if the disk of each is missing and its notes name the track group;
-- else if the block is loose, or the volume passive and dirty.
abbrev pub MayDiffer : ModelState → ℕ → ℕ → Bool → Type 0
MayDiffer s lv b true = (c : Pp) → Live s lv b c → IsTrue (s.missing c.disk) × Named s c.disk lv (track_group_of b)
MayDiffer s lv b false = IsTrue (told s lv b).loose ⊎ DifferDirty s lv b

-- the live copies hold one value
abbrev pub Agree : ModelState → ℕ → ℕ → Type 0
Agree s lv b = (value : List ℕ) × ((c : Pp) → Live s lv b c → s.media.block lv b c ≡ value)

-- no write that has started goes over the block: each live copy holds a value that the block may have, and all hold one, unless they may differ
pub record Quiescent (s : ModelState) (lv b : ℕ) : Type 0 where
  pub calm : (i : ℕ) (r : Queued) → Started s i r → IsTrue (covers r lv b) → ⊥
  pub allowed : (c : Pp) → Live s lv b c → IsValue (told s lv b) (s.media.block lv b c)
  pub equal : Agree s lv b ⊎ MayDiffer s lv b (s.is_active lv)

-- a write that has started goes over the block
pub record Busy (s : ModelState) (r : Queued) (lv b : ℕ) : Type 0 where
  pub known : (values : List (List ℕ)) × ((told s lv b).values ≡ Some values)
  -- it goes to each live copy, and each holds what it may hold or the new value
  pub aimed : (c : Pp) → Live s lv b c → (stage : Stage) × (r.targets c ≡ Some stage)
  pub value : (c : Pp) → Live s lv b c → IsValue (told s lv b) (s.media.block lv b c) ⊎ (s.media.block lv b c ≡ r.value b)
  pub well : (c : Pp) → r.targets c ≡ Some Well → s.media.block lv b c ≡ r.value b

-- a write that has started is recorded on the disk of each of its targets, or in the status, or has only one
pub record Recorded (s : ModelState) (r : Queued) (lv b : ℕ) : Type 0 where
  pub named : IsTrue (s.is_active lv) → IsTrue r.several → (c : Pp) (stage : Stage) → r.targets c ≡ Some stage → Named s c.disk lv (track_group_of b)
  pub dirty : IsTrue (s.is_passive lv) → IsTrue r.several → IsTrue (s.committed.value.dirty lv)
  pub one : (c : Pp) × (stage : Stage) × (r.targets c ≡ Some stage)
  pub single : IsFalse r.several → (c e : Pp) (x y : Stage) → r.targets c ≡ Some x → r.targets e ≡ Some y → c ≡ e

-- the blocks
pub record Blocks (s : ModelState) : Type 0 where
  pub each : (lv b : ℕ) → Quiescent s lv b ⊎ ((i : ℕ) × (r : Queued) × Started s i r × IsTrue (covers r lv b))
  pub busy : (i lv b : ℕ) (r : Queued) → Started s i r → IsTrue (covers r lv b) → Busy s r lv b
  pub recorded : (i lv b : ℕ) (r : Queued) → Started s i r → IsTrue (covers r lv b) → Recorded s r lv b

-- what the history says of the requests: a request that hasn't landed is an open write at exactly the blocks that it goes over
abbrev pub the_write : Queued → ℕ → ℕ → Option (List ℕ)
the_write r lv b = if r.write && covers r lv b then Some (r.value b) else None

pub record Tied (s : ModelState) : Type 0 where
  pub open_writes : (i : ℕ) (r : Queued) → s.queue i ≡ Some r → IsTrue r.write → IsFalse (has_landed r.phase) → (lv b : ℕ) → write_of b (told s lv b) (request_of s i) ≡ the_write r lv b
  -- at a block that has a copy: what is known of others, past the end of their volume, may be older
  pub modes : (lv b : ℕ) (c : Pp) → IsTrue (s.is_copy lv b c) → IsFalse (s.is_active lv) → IsFalse (s.is_passive lv) → IsTrue (is_off (told s lv b).mode)
  pub tight : (lv b : ℕ) (c : Pp) → IsTrue (s.is_copy lv b c) → IsTrue (s.is_active lv) ⊎ IsTrue (s.is_passive lv) → IsFalse (told s lv b).loose
  -- a partition is a copy of one logical partition
  pub owner : (lv b l d : ℕ) (c e : Pp) → IsTrue (s.is_copy lv b c) → IsTrue (s.is_copy l d c) → IsTrue (s.is_copy l d e) → IsTrue (s.is_copy lv b e)
  pub inside : (i : ℕ) (r : Queued) → s.queue i ≡ Some r → (lv b : ℕ) → IsTrue (covers r lv b) → (c : Pp) × IsTrue (s.is_copy lv b c)
  -- a request lies in one track group of one logical partition
  pub place : (i : ℕ) (r : Queued) → s.queue i ≡ Some r → (lv b : ℕ) → IsTrue (covers r lv b) → (lv ≡ r.lv) × (track_group_of b ≡ track_group_of r.first) × (s.is_copy r.lv b ≡ s.is_copy r.lv r.first)

-- the copy that is being brought up is this one, and it has passed all its track groups
pub record Complete (s : ModelState) (c : Pp) : Type 0 where
  pub copy : ModelCopy
  pub is_open : s.open_copy ≡ Some copy
  pub target : copy.target ≡ c
  pub passed : (lv b : ℕ) → IsTrue (s.is_copy lv b c) → IsTrue (copy.passed lv (track_group_of b))

-- fresh by all three
pub record StaysFresh (s : ModelState) (c : Pp) : Type 0 where
  pub committed : IsFalse (s.committed.value.stale c)
  pub flying : (u : Stamped Marks) → s.in_flight ≡ Some u → IsFalse (u.value.stale c)
  pub wanted : IsFalse (s.wanted.stale c)

-- what is committed, under way and wanted: staleness stays, but where the copy that is brought up is to be cleared
pub record Statuses (s : ModelState) : Type 0 where
  pub stale_flies : (c : Pp) (u : Stamped Marks) → s.in_flight ≡ Some u → IsTrue (s.committed.value.stale c) → IsFalse (u.value.stale c) → IsTrue (s.wanted.stale c) ⊎ Complete s c
  pub stale_is_wanted : (c : Pp) → IsTrue (s.committed.value.stale c) → IsFalse (s.wanted.stale c) → Complete s c
  pub flying_is_wanted : (c : Pp) (u : Stamped Marks) → s.in_flight ≡ Some u → IsTrue (u.value.stale c) → IsFalse (s.wanted.stale c) → Complete s c
  -- each logical partition has a copy that all three call fresh
  pub kept : (lv b : ℕ) (c : Pp) → IsTrue (s.is_copy lv b c) → (e : Pp) × IsTrue (s.is_copy lv b e) × StaysFresh s e
  -- the copy that is brought up is on a disk that isn't missing, and is stale by what is committed or wanted
  pub open_there : (o : ModelCopy) → s.open_copy ≡ Some o → IsFalse (s.missing o.target.disk)
  pub open_stale : (o : ModelCopy) → s.open_copy ≡ Some o → IsTrue (s.committed.value.stale o.target) ⊎ IsTrue (s.wanted.stale o.target)
  -- a volume that is dirty stays so
  pub dirty_flies : (lv : ℕ) (u : Stamped Marks) → s.in_flight ≡ Some u → IsTrue (s.committed.value.dirty lv) → IsTrue (u.value.dirty lv)
  pub dirty_is_wanted : (lv : ℕ) → IsTrue (s.committed.value.dirty lv) → IsTrue (s.wanted.dirty lv)
  pub dirty_flying_is_wanted : (lv : ℕ) (u : Stamped Marks) → s.in_flight ≡ Some u → IsTrue (u.value.dirty lv) → IsTrue (s.wanted.dirty lv)

-- What a missing disk entails. (It is stated apart, since the marks that a change entails are made within the same event.)
pub record Behind (s : ModelState) : Type 0 where
  -- a fresh copy on a missing disk is wanted stale if the logical partition has another usable copy that isn't
  pub left_behind : (lv b : ℕ) (c e : Pp) → IsTrue (s.is_copy lv b c) → IsFalse (s.committed.value.stale c) → IsTrue (s.missing c.disk)
      → IsTrue (s.is_copy lv b e) → IsTrue (is_usable s e) → IsFalse (s.wanted.stale e) → IsTrue (s.wanted.stale c)

-- the notes of disks that aren't missing are those that were written last, and what writes pinned is in the cache
pub record Notes (s : ModelState) : Type 0 where
  pub home : (d lv g : ℕ) → IsFalse (s.missing d) → s.media.names d lv g ≡ s.home_note d lv g
  pub pinned : (i : ℕ) (r : Queued) → s.queue i ≡ Some r → IsTrue r.write → IsTrue (is_pinning r.phase) → IsTrue (s.is_active r.lv) → IsTrue r.several → IsTrue (s.cache r.lv (track_group_of r.first))

-- some block of both requests, one of which writes
pub record Conflict (r e : Queued) : Type 0 where
  pub lv : ℕ
  pub block : ℕ
  pub first : IsTrue (covers r lv block)
  pub second : IsTrue (covers e lv block)
  pub writes : IsTrue r.write ⊎ IsTrue e.write

pub record ModelHolds (s : ModelState) : Type 0 where
  pub order : (i j : ℕ) (r e : Queued) → s.queue i ≡ Some r → s.queue j ≡ Some e → j < i → Conflict e r → IsTrue (is_past r.phase) → IsTrue (has_landed e.phase)
  -- a read that was admitted: the copies of its order hold what the live copies hold
  pub reads : (i lv b : ℕ) (r : Queued) → s.queue i ≡ Some r → IsFalse r.write → IsTrue (is_past r.phase) → IsTrue (covers r lv b) → (c : Pp) (stage : Stage) → r.targets c ≡ Some stage
      → IsValue (told s lv b) (s.media.block lv b c) × (IsTrue (told s lv b).loose ⊎ ((e : Pp) → Live s lv b e → s.media.block lv b e ≡ s.media.block lv b c))
  -- and what it got is allowed, and what the live copies hold
  pub got : (i lv b : ℕ) (r : Queued) (value : ℕ → List ℕ) → s.queue i ≡ Some r → IsFalse r.write → IsTrue (is_past r.phase) → r.got ≡ Some value → IsTrue (covers r lv b)
      → IsValue (told s lv b) (value b) × (IsTrue (told s lv b).loose ⊎ ((e : Pp) → Live s lv b e → s.media.block lv b e ≡ value b))

pub record Sound (s : ModelState) : Type 0 where
  pub blocks : Blocks s
  pub tied : Tied s
  pub statuses : Statuses s
  pub behind : Behind s
  pub notes : Notes s
  pub holds : ModelHolds s

-- all of these but what a missing disk entails
pub record Nearly (s : ModelState) : Type 0 where
  pub blocks : Blocks s
  pub tied : Tied s
  pub statuses : Statuses s
  pub notes : Notes s
  pub holds : ModelHolds s
