-- Which targets of a write are to be stale.
use Rattle.std.specs.Prelude.{◌≡◌, ◌<◌, ◌&&◌, ◌||◌, ℕ, Bool, true, false, List, [], filter, length, All, Option, Some, None, IfSome, slice_get, slice_index_or}
use Rattle.std.specs.List.{remove}
use Rattle.lvm_sched.specs.declared.writes.TargetState.TheVariants as stage
use Rattle.lvm_status.specs.Calls.{IsMarkable}
use Rattle.lvm_status.specs.Runs.{IsSoundStatus}
use Rattle.lvm_status.specs.Update.{seen}
use Rattle.lvm_path.specs.declared.request.Request.{Request}
use Rattle.lvm_path.specs.declared.target.Target.{Target}
use Rattle.lvm_path.specs.Asks.{is_write}
use Rattle.lvm_path.specs.Targets.{are_over, is_failed}
use Rattle.lvm_session.specs.declared.open.Open.{Open}
use Rattle.lvm_session.specs.State.{Core}
use Rattle.lvm_session.specs.Judging.{is_kept, is_sure_at}
use Rattle.lvm_calls.specs.declared.due.Due.{Due}
use Rattle.lvm_calls.specs.declared.due.Due.TheVariants as due

-- its transfer failed, or all are meant
abbrev pub is_meant : Bool → Target → Bool
is_meant all t = all || is_failed t.state

-- all but the one at this place
abbrev pub without_place : Option ℕ → List Target → List Target
without_place None ts = ts
without_place (Some k) ts = remove ts k

-- those that are to be stale
abbrev pub due_among : Due → List Target → List Target
due_among due.Nothing ts = []
due_among due.Failed ts = filter (is_meant false) ts
due_among (due.Others sure) ts = without_place sure ts

-- the one that is left out is one of them
abbrev pub IsWithinDue : Due → List Target → Type 0
IsWithinDue due.Nothing ts = Unit {0}
IsWithinDue due.Failed ts = Unit {0}
IsWithinDue (due.Others sure) ts = IfSome sure (λ k. k < length ts)

-- the target at a place is sure
abbrev pub sure_at : Core → List Target → ℕ → Bool
sure_at core ts k = is_sure_at core (slice_index_or ts k (record { pp = record { disk = 0; pp = 0 }; sector = 0; usable = false; moves = false; faults = 0; state = stage.Waiting }))

-- the first target that is sure, where one is
abbrev pub IsFirstSure : Core → List Target → Option ℕ → Type 0
IsFirstSure core ts None = (k : ℕ) → k < length ts → sure_at core ts k ≡ false
IsFirstSure core ts (Some k) = (k < length ts) × (sure_at core ts k ≡ true) × ((j : ℕ) → j < k → sure_at core ts j ≡ false)

-- Once the transfers of a write have all ended those that failed, where a sure one has succeeded, and else all but the first that is sure.
abbrev pub IsDue : Core → Request → Due → Type 0
IsDue core r due.Nothing = (is_write r.ask && are_over r.targets.items) ≡ false
IsDue core r due.Failed = ((is_write r.ask && are_over r.targets.items) ≡ true) × (is_kept core r ≡ true)
IsDue core r (due.Others sure) = ((is_write r.ask && are_over r.targets.items) ≡ true) × (is_kept core r ≡ false) × IsFirstSure core r.targets.items sure

-- The targets of the request at a place may be marked.
pub record MayMark (core : Core) (place : ℕ) : Type 0 where
  pub within : place < length core.requests
  pub sound : IsSoundStatus (seen core.status)
  pub markable : (o : Open) → slice_get core.requests place ≡ Some o → All (λ (t : Target). IsMarkable core.status.wanted t.pp) o.request.targets.items
