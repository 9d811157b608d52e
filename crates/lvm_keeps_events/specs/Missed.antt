-- A write that has missed the destination of a move, written out.
use Rattle.std.specs.Prelude.{◌≡◌, [], ◌∷◌, Some, None}
use Rattle.lvm_num.specs.declared.descriptor.Mode.TheVariants as mode
use Rattle.lvm_sched.specs.declared.writes.TargetState.TheVariants as stage
use Rattle.lvm_path.specs.declared.request.Phase.TheVariants as phase
use Rattle.lvm_path.specs.declared.target.Target.{Target}
use Rattle.lvm_session.specs.declared.answers.CopyState.TheVariants as copy
use Rattle.lvm_session.specs.declared.bringing.CopyEnd.TheVariants as ending
use Rattle.lvm_session.specs.declared.event.Event.TheVariants as event
use Rattle.lvm_session.specs.declared.open.Open.{Open}
use Rattle.lvm_session.specs.State.{State, state}
use Rattle.lvm_session.specs.Calls.{copy_state}
use Rattle.lvm_session.specs.Enabled.{first_event}
use Rattle.lvm_session.specs.Requests.{IsRequest}
use Rattle.lvm_session.specs.Sound.{IsSound}
use Rattle.lvm_session.specs.Worked.{Moment, Says, a_write, asking, core_of, first_copy, fresh, held_write, second_copy, target_on}
use Rattle.lvm_session.specs.WorkedMoves.{moving_to, on_destination, destination_stale, third_fails}

-- it has failed on the destination
abbrev pub destination_failed : Target
destination_failed = on_destination stage.Failed

-- It is done on both copies and has failed on the destination, by which the move has ended.
abbrev pub missed_write : Open
missed_write = asking 1 a_write phase.WantStatus (target_on first_copy stage.Done ∷ target_on second_copy stage.Done ∷ destination_failed ∷ [])

-- so the session stands, where this is wanted
abbrev pub missing_moment : Says → Moment
missing_moment wanted = record (held_write mode.Off) { wanted = wanted; requests = missed_write ∷ []; copy = Some (moving_to 3 (Some ending.SyncFailed)); origin = destination_stale }

abbrev pub missing : Says → State
missing wanted = state third_fails (core_of (missing_moment wanted))

-- It is sound where staleness of the destination is wanted, and the status is written next; where none is, nothing could ever be made of it, and it isn't sound. The
-- move, though it has ended, is told as running while the write goes to its destination.
pub record MissedWritesWait : Type 0 where
  pub sound : IsSound (missing destination_stale)
  pub next : first_event (missing destination_stale).core ≡ Some event.StartStatus
  pub runs : copy_state (missing destination_stale).core ≡ copy.Running 3
  pub waits : first_event (missing fresh).core ≡ None
  pub unsound : IsRequest (missing fresh).core missed_write → ⊥
