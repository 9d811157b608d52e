-- A step of a copy enters the queue.
use Rattle.std.specs.Prelude.{◌≡◌, ℕ, ◌<◌, Some, IsTrue, IsFalse}
use Rattle.lvm_invariant.specs.Found.{Votes}
use Rattle.lvm_invariant.specs.Updates.{put, with_name}
use Rattle.lvm_vol.specs.Facts.{Request}
use Rattle.lvm_invariant.specs.Submit.{IsPlaced}
use Rattle.lvm_invariant.specs.State.{Held, Queued, ModelState}
use Rattle.lvm_invariant.specs.Good.{Good}

-- it waits in the last place, and reads
pub record StepEnters (s : ModelState) (i : ℕ) (r : Queued) : Type 0 where
  pub held : r.phase ≡ Held
  pub newest : (j : ℕ) (e : Queued) → s.queue j ≡ Some e → j < i
  pub placed : IsPlaced s r
  pub step : IsTrue r.step
  pub reads : IsFalse r.write

-- its name is none of the history's
abbrev pub entered : ModelState → ℕ → Request → Queued → ModelState
entered s i q r = record s { queue = put s.queue i r; name = with_name s.name i q }

abbrev pub EnterStepKeeps : Type 0
EnterStepKeeps = (votes : Votes) (s : ModelState) (i : ℕ) (q : Request) (r : Queued) → StepEnters s i r → Good votes s → Good votes (entered s i q r)
