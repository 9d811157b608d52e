-- A copy gets the blocks that a step has read.
use Rattle.std.specs.Prelude.{◌≡◌, ◌⊎◌, ℕ, List, Option, Some, IsTrue, IsFalse}
use Rattle.lvm_num.specs.declared.place.Pp.{Pp}
use Rattle.lvm_num.specs.Geometry.{track_group_of}
use Rattle.lvm_invariant.specs.Found.{Votes}
use Rattle.lvm_invariant.specs.Updates.{with_block}
use Rattle.lvm_invariant.specs.State.{Queued, ModelCopy, StepWrite, ModelState, covers, is_past}
use Rattle.lvm_invariant.specs.Good.{Good}

-- the open copy passes track groups whose blocks have been written to it
pub record PassesGroups (s : ModelState) (r : Queued) (value : ℕ → List ℕ) (target : Pp) (block : ℕ → ℕ → Pp → List ℕ) (open_copy : Option ModelCopy) : Type 0 where
  pub old : ModelCopy
  pub new : ModelCopy
  pub is_open : s.open_copy ≡ Some old
  pub is_now : open_copy ≡ Some new
  pub own : old.target ≡ target
  pub same_target : new.target ≡ old.target
  pub still : (lv g : ℕ) → IsTrue (old.passed lv g) → IsTrue (new.passed lv g)
  pub passes : (lv b : ℕ) → IsTrue (new.passed lv (track_group_of b)) → IsTrue (old.passed lv (track_group_of b))
      ⊎ (IsTrue (s.is_copy lv b old.target) → IsTrue (covers r lv b) × (block lv b old.target ≡ value b))

-- A copy gets blocks that a step has read: a write of them starts or ends (also where the copy has ended meanwhile).
pub record CopyWrites (s : ModelState) (i : ℕ) (r : Queued) (value : ℕ → List ℕ) (target : Pp) (open_copy : Option ModelCopy) (block : ℕ → ℕ → Pp → List ℕ) : Type 0 where
  pub there : s.queue i ≡ Some r
  pub read : IsFalse r.write
  pub past : IsTrue (is_past r.phase)
  pub got : r.got ≡ Some value
  pub media : (lv b : ℕ) (e : Pp) → (block lv b e ≡ s.media.block lv b e) ⊎ (IsTrue (covers r lv b) × (e ≡ target) × (block lv b e ≡ value b))
  pub open_now : (open_copy ≡ s.open_copy) ⊎ PassesGroups s r value target block open_copy

abbrev pub copied : ModelState → (ℕ → ℕ → Pp → List ℕ) → Option ModelCopy → Option StepWrite → ModelState
copied s block open_copy step_write = record s { media = with_block s.media block; open_copy = open_copy; step_write = step_write }

abbrev pub CopyWriteKeeps : Type 0
CopyWriteKeeps = (votes : Votes) (s : ModelState) (i : ℕ) (r : Queued) (value : ℕ → List ℕ) (target : Pp) (open_copy : Option ModelCopy) (step_write : Option StepWrite) (block : ℕ → ℕ → Pp → List ℕ)
    → CopyWrites s i r value target open_copy block → Good votes s → Good votes (copied s block open_copy step_write)
