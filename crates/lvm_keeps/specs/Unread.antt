-- Requests that find no copy to go on with, written out.
use Rattle.std.specs.Prelude.{◌≡◌, ◌==◌, true, false, if◌then◌else◌, [], ◌∷◌, Some}
use Rattle.lvm_num.specs.declared.descriptor.Mode.{Mode}
use Rattle.lvm_disk.specs.Device.{Device}
use Rattle.lvm_vol.specs.declared.entry.Outcome.TheVariants as outcome
use Rattle.lvm_vol.specs.declared.entry.Vol.TheVariants.{Lv}
use Rattle.lvm_vol.specs.Facts.{Begun, Request as Asked}
use Rattle.lvm_sched.specs.declared.writes.TargetState.TheVariants as stage
use Rattle.lvm_path.specs.declared.request.Phase.TheVariants as phase
use Rattle.lvm_session.specs.declared.event.Event.TheVariants as event
use Rattle.lvm_session.specs.declared.open.Open.{Open}
use Rattle.lvm_session.specs.State.{State, state}
use Rattle.lvm_session.specs.Enabled.{first_event}
use Rattle.lvm_session.specs.Events.{Lands, after_landing}
use Rattle.lvm_session.specs.Causes.{IsLandedFor}
use Rattle.lvm_session.specs.Sound.{IsSound}
use Rattle.lvm_session.specs.Worked.{a_read, a_write, asking, behind, calm, core_of, faultless, first_copy, held_write, row_for, second_copy, target_on}
use Rattle.lvm_keeps.specs.Failing.{all_faulted}

-- ---- no copy is left

-- a transfer has failed on the first disk
abbrev pub first_faulted : Device
first_faulted = record faultless { counts = record faultless.counts { faults = λ disk. if 0 == disk then 1 else 0 } }

abbrev pub held : Open
held = asking 1 a_write phase.Held []

-- The second copy was stale when the session began, and the first disk has failed since.
abbrev pub without_copy : Mode → State
without_copy m = state first_faulted (core_of (record (held_write m) { committed = behind; wanted = record behind { missing = true }; origin = behind }))

abbrev pub refused : Mode → State
refused m = state first_faulted (after_landing (without_copy m).core 0 held outcome.NoFresh)

-- A session with no copy for its write is sound; the write lands so, and some disk has failed.
pub record WritesWithoutCopyAreSound : Type 0 where
  pub sound : (m : Mode) → IsSound (without_copy m)
  pub next : (m : Mode) → first_event (without_copy m).core ≡ Some (event.Land 0 outcome.NoFresh)
  pub lands : (m : Mode) → Lands (without_copy m) (refused m) 0 outcome.NoFresh
  pub caused : (m : Mode) → IsLandedFor (without_copy m) held outcome.NoFresh

-- ---- each copy was read in vain

abbrev pub begun_read : Asked
begun_read = record { run = 50; id = 1; client = 1; vol = Lv 1; at = 0; count = 1; write = false; blocks = [] }

abbrev pub failed_read : Open
failed_read = asking 1 a_read phase.Data (target_on first_copy stage.Failed ∷ target_on second_copy stage.Failed ∷ [])

abbrev pub unread : Mode → State
unread m = state all_faulted (core_of (record (calm m) { facts = Begun begun_read ∷ []; requests = failed_read ∷ []; rows = row_for 1 a_read ∷ [] }))

abbrev pub read_in_vain : Mode → State
read_in_vain m = state all_faulted (after_landing (unread m).core 0 failed_read outcome.ReadFailed)

-- A session with a read that has failed on both copies is sound; the read lands so, and both disks have failed since it was admitted.
pub record FailedReadsAreSound : Type 0 where
  pub sound : (m : Mode) → IsSound (unread m)
  pub next : (m : Mode) → first_event (unread m).core ≡ Some (event.Land 0 outcome.ReadFailed)
  pub lands : (m : Mode) → Lands (unread m) (read_in_vain m) 0 outcome.ReadFailed
  pub caused : (m : Mode) → IsLandedFor (unread m) failed_read outcome.ReadFailed
