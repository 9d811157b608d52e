-- A step of a copy has ended.
use Rattle.std.specs.Prelude.{◌≡◌, ℕ, Some, IsTrue, IsFalse}
use Rattle.lvm_invariant.specs.Found.{Votes}
use Rattle.lvm_invariant.specs.Updates.{with_req, land}
use Rattle.lvm_invariant.specs.State.{Queued, ModelState, has_landed}
use Rattle.lvm_invariant.specs.Good.{Good}

pub record EndsStep (s : ModelState) (i : ℕ) (r : Queued) : Type 0 where
  pub there : s.queue i ≡ Some r
  pub step : IsTrue r.step
  pub unlanded : IsFalse (has_landed r.phase)

abbrev pub EndStepKeeps : Type 0
EndStepKeeps = (votes : Votes) (s : ModelState) (i : ℕ) (r : Queued) → EndsStep s i r → Good votes s → Good votes (with_req s i (land r))
