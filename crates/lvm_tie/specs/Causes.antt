-- The state as which a session is seen has the causes of the induction.
use Rattle.std.specs.Prelude.{◌≡◌, ◌≤◌, ℕ, not, ◌++◌, List, Some, slice_get}
use Rattle.lvm_num.specs.declared.place.Pp.{Pp}
use Rattle.lvm_num.specs.Status.{calls_stale}
use Rattle.lvm_vol.specs.Facts.{Fact}
use Rattle.lvm_status.specs.Update.{members_there}
use Rattle.lvm_path.specs.declared.target.Target.{Target}
use Rattle.lvm_session.specs.declared.open.Open.{Open}
use Rattle.lvm_session.specs.declared.bringing.OpenCopy.{OpenCopy}
use Rattle.lvm_session.specs.Calls.{copy_at}
use Rattle.lvm_session.specs.Judging.{copies_in, place_of}
use Rattle.lvm_session.specs.State.{State}
use Rattle.lvm_session.specs.Causes.{faults_at_first, faults_at_opening}
use Rattle.lvm_session.specs.Sound.{IsSound}
use Rattle.lvm_invariant.specs.Caused.{Caused}
use Rattle.lvm_invariant.specs.Faults.{Faults}
use Rattle.lvm_tie.specs.Tied.{IsTied}
use Rattle.lvm_tie.specs.Landings.{HasCausesSince}

-- What causes are judged by in a session that began with this history behind an earlier one: its counts of faults now and when it began, and how it began. The
-- counts when a request entered the queue are any that aren't later than when its targets were chosen, those of a step any that aren't later than when its copy
-- was opened.
pub record AreFaultsOf (past first : List Fact) (s : State) (w : Faults) : Type 0 where
  pub now : (d : ℕ) → w.now d ≡ s.device.counts.faults d
  pub began : (d : ℕ) → w.began d ≡ faults_at_first s.core d
  pub asked_since : (i d : ℕ) → w.began d ≤ w.asked i d
  pub asked_before : (i d : ℕ) → w.asked i d ≤ w.now d
  pub asked : (place : ℕ) (o : Open) (number : ℕ) (t : Target) → slice_get s.core.requests place ≡ Some o → slice_get o.request.targets.items number ≡ Some t
      → w.asked (place_of o.request.id) t.pp.disk ≤ t.faults
  pub opened : (c : OpenCopy) (number : ℕ) (p : Pp) → s.core.copy ≡ Some c → copy_at (copies_in s.core.descriptor c.lv c.lp) number ≡ Some p
      → w.asked c.place p.disk ≤ faults_at_opening c number
  pub missing : (d : ℕ) → w.missing d ≡ not (members_there s.core.descriptor s.core.origin.table d)
  pub stale : (p : Pp) → w.stale p ≡ calls_stale s.core.origin.table p
  pub past_is : w.past ≡ past ++ first

-- Each sound session has them.
abbrev pub FaultsAreThere : Type 0
FaultsAreThere = (past first : List Fact) (s : State) → IsSound s → (w : Faults) × AreFaultsOf past first s w

-- Nothing is missing, stale or failed in the state as which a tied session is seen but from the beginning of the session, or by a fault since; requests, also those
-- that have landed, have failed by faults since they were asked, and steps of the copy by faults since it was opened.
abbrev pub CausesAreSeen : Type 0
CausesAreSeen = (past first : List Fact) (s : State) (w : Faults) (tied : IsTied past s) → HasCausesSince first s → AreFaultsOf past first s w → Caused w tied.view
