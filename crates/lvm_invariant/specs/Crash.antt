-- What a loss of power may leave, and when it agrees with the history.
use Rattle.std.specs.Prelude.{◌≡◌, ◌⊎◌, ℕ, Bool, true, false, List, Some, IsTrue, IsFalse}
use Rattle.lvm_num.specs.declared.place.Pp.{Pp}
use Rattle.lvm_num.specs.Geometry.{track_group_of}
use Rattle.lvm_num.specs.Record.{Stamped}
use Rattle.lvm_vol.specs.May.{Known, cut, IsValue}
use Rattle.lvm_invariant.specs.State.{Marks, Groups, View, Flying, Queued, StepWrite, ModelState, covers, is_past, Started, told}
use Rattle.lvm_invariant.specs.Sound.{Sound}

-- a write flies to this copy and brings the value to the block
pub record Brings (s : ModelState) (lv b : ℕ) (c : Pp) (value : List ℕ) : Type 0 where
  pub id : ℕ
  pub req : Queued
  pub started : Started s id req
  pub over : IsTrue (covers req lv b)
  pub flies : req.targets c ≡ Some Flying
  pub is : value ≡ req.value b

-- a step writes to the copy that is brought up, and brings the value to the block
pub record CopyBrings (s : ModelState) (lv b : ℕ) (c : Pp) (value : List ℕ) : Type 0 where
  pub step : StepWrite
  pub flies : s.step_write ≡ Some step
  pub target : step.target ≡ c
  pub id : ℕ
  pub place : step.place ≡ id
  pub req : Queued
  pub values : ℕ → List ℕ
  pub there : s.queue id ≡ Some req
  pub read : IsFalse req.write
  pub past : IsTrue (is_past req.phase)
  pub got : req.got ≡ Some values
  pub over : IsTrue (covers req lv b)
  pub is : value ≡ values b

-- what the disks may show after a loss of power now
pub record IsCrash (s : ModelState) (v : View) : Type 0 where
  pub block : (lv b : ℕ) (c : Pp) → IsTrue (s.is_copy lv b c) → (v.block lv b c ≡ s.media.block lv b c) ⊎ Brings s lv b c (v.block lv b c) ⊎ CopyBrings s lv b c (v.block lv b c)
  pub names : (d : ℕ) → (v.names d ≡ s.media.names d) ⊎ ((n : Groups) × (s.flying_note d ≡ Some n) × (v.names d ≡ n))
  pub status : (d : ℕ) → (v.status d ≡ s.media.status d) ⊎ ((u : Stamped Marks) × (s.in_flight ≡ Some u) × IsTrue (s.status_flying d) × (v.status d ≡ Some u))

-- a copy of the block that the status calls fresh
pub record Fresh (s : ModelState) (marks : Marks) (lv b : ℕ) (c : Pp) : Type 0 where
  pub copy : IsTrue (s.is_copy lv b c)
  pub fresh : IsFalse (marks.stale c)

-- why copies may differ after the loss, given what is known of the block then
abbrev pub MayDifferAfter : ModelState → View → Marks → Known → ℕ → ℕ → Bool → Type 0
MayDifferAfter s v marks k lv b true = (c : Pp) → Fresh s marks lv b c → IsTrue (v.names c.disk lv (track_group_of b))
MayDifferAfter s v marks k lv b false = IsTrue k.loose ⊎ (IsTrue (s.is_passive lv) × IsTrue (marks.dirty lv))

-- the block, on the copies that the status calls fresh
pub record BlockKept (s : ModelState) (v : View) (marks : Marks) (k : Known) (lv b : ℕ) : Type 0 where
  pub allowed : (c : Pp) → Fresh s marks lv b c → IsValue k (v.block lv b c)
  pub equal : ((value : List ℕ) × ((c : Pp) → Fresh s marks lv b c → v.block lv b c ≡ value)) ⊎ MayDifferAfter s v marks k lv b (s.is_active lv)
  pub some : (c : Pp) → IsTrue (s.is_copy lv b c) → (e : Pp) × Fresh s marks lv b e

-- a status that a quorum may find
abbrev pub IsPossible : ModelState → Marks → Type 0
IsPossible s marks = (marks ≡ s.committed.value) ⊎ ((u : Stamped Marks) × (s.in_flight ≡ Some u) × (marks ≡ u.value))

-- what is known afterwards allows at least what is known now, and what the writes bring that have started
pub record Widens (s : ModelState) (after : ℕ → ℕ → Known) : Type 0 where
  pub old : (lv b : ℕ) (value : List ℕ) → IsValue (told s lv b) value → IsValue (after lv b) value
  pub new : (i lv b : ℕ) (r : Queued) → Started s i r → IsTrue (covers r lv b) → IsValue (after lv b) (r.value b)
  pub loose : (lv b : ℕ) → IsTrue (told s lv b).loose → IsTrue (after lv b).loose
  pub started : (i lv b : ℕ) (r : Queued) → Started s i r → IsTrue (covers r lv b) → IsFalse (s.is_active lv) → IsFalse (s.is_passive lv) → IsTrue (after lv b).loose

-- Each crash image agrees with the history, whichever status is found.
abbrev pub EachKept : ModelState → Type 0
EachKept s = (v : View) (marks : Marks) (lv b : ℕ) → IsCrash s v → IsPossible s marks → BlockKept s v marks (cut b (told s lv b)) lv b

abbrev pub CoreIsKept : Type 0
CoreIsKept = (s : ModelState) → Sound s → EachKept s
