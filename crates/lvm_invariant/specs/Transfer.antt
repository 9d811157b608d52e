-- A further transfer of a write starts, or one ends.
use Rattle.std.specs.Prelude.{◌≡◌, ◌⊎◌, ℕ, List, Some, IsTrue}
use Rattle.lvm_num.specs.declared.place.Pp.{Pp}
use Rattle.lvm_invariant.specs.Found.{Votes}
use Rattle.lvm_invariant.specs.Updates.{put, staged, with_block}
use Rattle.lvm_invariant.specs.State.{Stage, Well, Queued, ModelState, covers, Started}
use Rattle.lvm_invariant.specs.Good.{Good}

-- A transfer of a write that has started changes its stage: it starts, or it ends. The media then show the new value at some of its blocks,
-- at all of them if it ended well.
pub record Restages (s : ModelState) (i : ℕ) (r : Queued) (c : Pp) (stage : Stage) (block : ℕ → ℕ → Pp → List ℕ) : Type 0 where
  pub started : Started s i r
  pub was : (x : Stage) × (r.targets c ≡ Some x)
  pub media : (lv b : ℕ) (e : Pp) → (block lv b e ≡ s.media.block lv b e) ⊎ (IsTrue (covers r lv b) × (e ≡ c) × (block lv b e ≡ r.value b))
  pub well : stage ≡ Well → (lv b : ℕ) → IsTrue (covers r lv b) → block lv b c ≡ r.value b

abbrev pub restaged : ModelState → ℕ → Queued → Pp → Stage → (ℕ → ℕ → Pp → List ℕ) → ModelState
restaged s i r c stage block = record s { media = with_block s.media block; queue = put s.queue i (record r { targets = staged r.targets c stage }) }

abbrev pub TransferKeeps : Type 0
TransferKeeps = (votes : Votes) (s : ModelState) (i : ℕ) (r : Queued) (c : Pp) (stage : Stage) (block : ℕ → ℕ → Pp → List ℕ)
    → Restages s i r c stage block → Good votes s → Good votes (restaged s i r c stage block)
