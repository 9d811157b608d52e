-- Writes of which transfers have failed, written out.
use Rattle.std.specs.Prelude.{◌≡◌, false, [], ◌∷◌, Option, Some, None}
use Rattle.lvm_num.specs.declared.descriptor.Mode.TheVariants as mode
use Rattle.lvm_disk.specs.Device.{Device}
use Rattle.lvm_vol.specs.declared.entry.Outcome.{Outcome}
use Rattle.lvm_vol.specs.declared.entry.Outcome.TheVariants as outcome
use Rattle.lvm_status.specs.declared.writes.Writes.{Writes}
use Rattle.lvm_sched.specs.declared.writes.TargetState.{TargetState}
use Rattle.lvm_sched.specs.declared.writes.TargetState.TheVariants as stage
use Rattle.lvm_path.specs.declared.request.Phase.TheVariants as phase
use Rattle.lvm_session.specs.declared.event.Event.TheVariants as event
use Rattle.lvm_session.specs.declared.open.Open.{Open}
use Rattle.lvm_session.specs.State.{State, state}
use Rattle.lvm_session.specs.Enabled.{first_event}
use Rattle.lvm_session.specs.Events.{Lands, after_landing}
use Rattle.lvm_session.specs.Causes.{IsLandedFor}
use Rattle.lvm_session.specs.Sound.{IsSound}
use Rattle.lvm_session.specs.Worked.{Moment, Says, a_write, asking, behind, core_of, faultless, first_copy, fresh, held_write, second_copy, target_on}
use Rattle.lvm_keeps.specs.Faulted.{faulted}

-- a write that has ended so on the first copy, and has failed on the second
abbrev pub ended_write : TargetState → Open
ended_write first = asking 1 a_write phase.WantStatus (target_on first_copy first ∷ target_on second_copy stage.Failed ∷ [])

-- the second copy is wanted stale, and the volume keeps no records
abbrev pub ended : Says → Option Says → Writes → TargetState → Moment
ended committed flies writes first =
    record (held_write mode.Off) { committed = committed; wanted = behind; flies = flies; writes = writes; requests = ended_write first ∷ [] }

abbrev pub no_writes : Writes
no_writes = record { unstarted = 0; started = 0; written = 0; failed = 0 }

-- the session at a place of the table after it has landed so
abbrev pub landed : State → TargetState → Outcome → State
landed s first how = state s.device (after_landing s.core 0 (ended_write first) how)

-- ---- its status isn't settled

-- The update that says so is written on the first disk.
abbrev pub unsettled : State
unsettled = state (faulted false) (core_of (ended fresh (Some behind) (record { unstarted = 6; started = 0; written = 1; failed = 0 }) stage.Done))

-- A session with a write that waits for the staleness of a copy on which it failed is sound, and writes the status.
pub record UnsettledWritesAreSound : Type 0 where
  pub sound : IsSound unsettled
  pub next : first_event unsettled.core ≡ Some event.StartStatus

-- ---- it is kept

abbrev pub kept : State
kept = state (faulted false) (core_of (ended behind None no_writes stage.Done))

-- Once that is settled the write lands as done.
pub record KeptWritesAreSound : Type 0 where
  pub sound : IsSound kept
  pub next : first_event kept.core ≡ Some (event.Land 0 outcome.Done)
  pub lands : Lands kept (landed kept stage.Done outcome.Done) 0 outcome.Done

-- ---- it is lost

-- a transfer has failed on each disk
abbrev pub all_faulted : Device
all_faulted = record faultless { counts = record faultless.counts { faults = λ disk. 1 } }

abbrev pub lost_on_both : State
lost_on_both = state all_faulted (core_of (ended behind None no_writes stage.Failed))

-- A write that has failed on both copies lands as lost, once all but one of them are settled as stale, and both disks have failed since it was admitted.
pub record LostWritesAreSound : Type 0 where
  pub sound : IsSound lost_on_both
  pub next : first_event lost_on_both.core ≡ Some (event.Land 0 outcome.Lost)
  pub lands : Lands lost_on_both (landed lost_on_both stage.Failed outcome.Lost) 0 outcome.Lost
  pub caused : IsLandedFor lost_on_both (ended_write stage.Failed) outcome.Lost
