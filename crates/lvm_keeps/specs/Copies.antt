-- Copies whose clearing is in flight, and that fail by it, written out.
use Rattle.std.specs.Prelude.{◌≡◌, Bool, true, false, if◌then◌else◌, [], ◌∷◌, Some, None}
use Rattle.lvm_num.specs.declared.descriptor.Mode.{Mode}
use Rattle.lvm_num.specs.declared.descriptor.Mode.TheVariants as mode
use Rattle.lvm_sched.specs.declared.writes.TargetState.TheVariants as stage
use Rattle.lvm_path.specs.declared.request.Phase.TheVariants as phase
use Rattle.lvm_session.specs.declared.bringing.CopyEnd.TheVariants as ending
use Rattle.lvm_session.specs.declared.event.Event.TheVariants as event
use Rattle.lvm_session.specs.declared.open.Open.{Open}
use Rattle.lvm_session.specs.State.{Core, State, state}
use Rattle.lvm_session.specs.Enabled.{first_event}
use Rattle.lvm_session.specs.Calls.{Closes, closed}
use Rattle.lvm_session.specs.Requests.{IsRequest}
use Rattle.lvm_session.specs.Sound.{IsSound}
use Rattle.lvm_session.specs.Worked.{a_write, asking, behind, bringing, bringing_up, core_of, faultless, first_copy, fresh, row_for, second_copy, target_on}
use Rattle.lvm_keeps.specs.Faulted.{faulted, without_disks}

-- ---- all of it is copied

-- The second copy was stale when the session began, all its track groups are copied, and the update that clears it is written on the first disk.
abbrev pub whole : Mode → State
whole m = state faultless (core_of (record (bringing m) {
  wanted = fresh;
  flies = Some fresh;
  writes = record { unstarted = 6; started = 0; written = 1; failed = 0 };
  rows = [];
  copy = Some (bringing_up 8 None);
}))

-- A session with such a copy is sound, and goes on to write the status.
pub record WholeCopiesAreSound : Type 0 where
  pub sound : (m : Mode) → IsSound (whole m)
  pub next : (m : Mode) → first_event (whole m).core ≡ Some event.StartStatus

-- ---- its disk has failed

-- The update's write to the copy's own disk has failed: the disk is missing, the copy has ended, and is wanted stale again.
abbrev pub failed : Mode → State
failed m =
    let core = core_of (record (bringing m) {
      flies = Some fresh;
      writes = record { unstarted = 4; started = 0; written = 1; failed = 2 };
      rows = [];
      copy = Some (bringing_up 8 (Some ending.SyncFailed));
    }) in
    state (faulted false) (record core { status = record core.status { wanted = without_disks false } })

-- A session with such a copy is sound, goes on to write the status, and stays sound where the copy is closed.
pub record FailedCopiesAreSound : Type 0 where
  pub sound : (m : Mode) → IsSound (failed m)
  pub next : (m : Mode) → first_event (failed m).core ≡ Some event.StartStatus
  pub closes : (m : Mode) → Closes (failed m).core (closed (failed m).core)
  pub after : (m : Mode) → IsSound (state (failed m).device (closed (failed m).core))

-- ---- a write that is done on it alone

-- A write has failed on the first copy, and is done on the second one, which is brought up.
abbrev pub carried_write : Open
carried_write = asking 1 a_write phase.WantStatus (target_on first_copy stage.Failed ∷ record (target_on second_copy stage.Done) { usable = false } ∷ [])

-- The update that clears the second copy is in flight, or is committed.
abbrev pub carrying : Bool → Core
carrying cleared = core_of (record (bringing mode.Off) {
  committed = if cleared then fresh else behind;
  wanted = fresh;
  flies = if cleared then None else Some fresh;
  writes = record { unstarted = 0; started = if cleared then 0 else 4; written = if cleared then 0 else 1; failed = 0 };
  requests = carried_write ∷ [];
  rows = row_for 1 a_write ∷ [];
  copy = Some (bringing_up 8 (if cleared then Some ending.Done else None));
})

-- Once it is committed the write waits for ever, since nothing wants the first copy stale; so such a session isn't sound before.
pub record CarriedWritesAreUnsound : Type 0 where
  pub waits : first_event (carrying true) ≡ None
  pub unsound : IsRequest (carrying false) carried_write → ⊥
