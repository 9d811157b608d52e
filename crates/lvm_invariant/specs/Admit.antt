-- A request is admitted, or a write chooses its targets again.
use Rattle.std.specs.Prelude.{◌≡◌, ◌⊎◌, ℕ, ◌<◌, Bool, Option, Some, None, IsTrue, IsFalse}
use Rattle.lvm_num.specs.declared.place.Pp.{Pp}
use Rattle.lvm_invariant.specs.Found.{Votes}
use Rattle.lvm_invariant.specs.Updates.{with_req}
use Rattle.lvm_invariant.specs.State.{Stage, ModelPhase, Held, WantEntry, Ready, Queued, ModelState, has_landed, is_past, is_usable}
use Rattle.lvm_invariant.specs.Good.{Good}
use Rattle.lvm_invariant.specs.Sound.{Conflict}

abbrev pub admitted : Queued → ModelPhase → Bool → (Pp → Option Stage) → Queued
admitted r phase several targets = record r { phase = phase; several = several; targets = targets; got = None }

-- a request that isn't blocked gets its targets, or gets them again
pub record Admits (s : ModelState) (i : ℕ) (r : Queued) (phase : ModelPhase) (several : Bool) (targets : Pp → Option Stage) : Type 0 where
  pub there : s.queue i ≡ Some r
  -- or it is a read that has got nothing yet
  pub early : (r.phase ≡ Held) ⊎ (r.phase ≡ WantEntry) ⊎ (r.phase ≡ Ready) ⊎ (IsFalse r.write × IsTrue (is_past r.phase) × (r.got ≡ None))
  pub phase_now : (phase ≡ WantEntry) ⊎ ((phase ≡ Ready) × (IsTrue r.write → IsTrue (s.is_active r.lv) → IsTrue several → ⊥))
  pub free : (j : ℕ) (e : Queued) → s.queue j ≡ Some e → j < i → Conflict e r → IsTrue (has_landed e.phase)
  pub usable : IsFalse r.write → (c : Pp) (x : Stage) → targets c ≡ Some x → IsTrue (s.is_copy r.lv r.first c) × IsTrue (is_usable s c)

abbrev pub AdmitKeeps : Type 0
AdmitKeeps = (votes : Votes) (s : ModelState) (i : ℕ) (r : Queued) (phase : ModelPhase) (several : Bool) (targets : Pp → Option Stage)
    → Admits s i r phase several targets → Good votes s → Good votes (with_req s i (admitted r phase several targets))
