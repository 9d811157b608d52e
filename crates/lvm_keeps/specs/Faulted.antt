-- Sessions in which disks have failed, written out.
use Rattle.std.specs.Prelude.{◌≡◌, ◌==◌, ℕ, Bool, true, false, if◌then◌else◌, List, [], ◌∷◌, Option, Some, None, map}
use Rattle.lvm_num.specs.declared.descriptor.Mode.{Mode}
use Rattle.lvm_num.specs.declared.status.Status.{Status}
use Rattle.lvm_disk.specs.Device.{Device}
use Rattle.lvm_disk.specs.declared.shelf.Arrange.TheVariants as arrange
use Rattle.lvm_vol.specs.declared.entry.Outcome.{Outcome}
use Rattle.lvm_vol.specs.declared.entry.Outcome.TheVariants as outcome
use Rattle.lvm_kept.specs.Examples.{row_of, status_of_rows}
use Rattle.lvm_session.specs.declared.event.Event.TheVariants as event
use Rattle.lvm_session.specs.declared.open.Open.{Open}
use Rattle.lvm_session.specs.State.{Core, State, state}
use Rattle.lvm_session.specs.Enabled.{first_event, is_lost}
use Rattle.lvm_session.specs.Dark.{all_dark, all_off}
use Rattle.lvm_session.specs.Turns.{ArrangesSession, GoesOff}
use Rattle.lvm_session.specs.Causes.{AnyFailedSince}
use Rattle.lvm_session.specs.Sound.{IsSound}
use Rattle.lvm_session.specs.Worked.{core_of, faultless, held_write}

-- ---- what has failed

-- one transfer has failed on the second disk, and one on the third where this is so
abbrev pub faults_on : Bool → ℕ → ℕ
faults_on both disk = if 1 == disk then 1 else if 2 == disk then (if both then 1 else 0) else 0

-- the shelf, of which faults and power cuts can be arranged
abbrev pub faulted : Bool → Device
faulted both = record faultless { arranges = true; counts = record faultless.counts { faults = faults_on both } }

-- what a status says: the second disk is missing and its copy stale, and the third disk is missing where this is so
abbrev pub without_disks : Bool → Status
without_disks both = status_of_rows (row_of 0 false ∷ record (row_of 1 true) { missing = true } ∷ record (row_of 2 false) { missing = both } ∷ [])

-- that is wanted, and nothing of it is written; a write is held until it is settled
abbrev pub wanting : Mode → Bool → Core
wanting m both = let core = core_of (held_write m) in record core { status = record core.status { wanted = without_disks both } }

-- ---- a disk is missing

abbrev pub missing_disk : Mode → State
missing_disk m = state (faulted false) (wanting m false)

-- A session that misses a disk is sound and has its votes, and writes the status next.
pub record MissingDisksAreSound : Type 0 where
  pub sound : (m : Mode) → IsSound (missing_disk m)
  pub votes : (m : Mode) → is_lost (missing_disk m).core ≡ false
  pub next : (m : Mode) → first_event (missing_disk m).core ≡ Some event.StartStatus

-- ---- the votes are lost

-- The write of that status to the third disk has failed too, and the first disk has it.
abbrev pub lost : Mode → State
lost m =
    let core = wanting m true in
    state (faulted true) (record core {
      status = record core.status {
        in_flight = Some (without_disks false);
        writes = record { unstarted = 0; started = 0; written = 1; failed = 4 };
      };
    })

-- the session is over by it
abbrev pub off : Mode → State
off m = state (faulted true) (all_off (lost m).core)

-- A session that has lost its votes by faults is sound, makes no event, and may end.
pub record LostVotesAreSound : Type 0 where
  pub sound : (m : Mode) → IsSound (lost m)
  pub is_lost : (m : Mode) → is_lost (lost m).core ≡ true
  pub caused : (m : Mode) → AnyFailedSince (lost m)
  pub none : (m : Mode) → first_event (lost m).core ≡ None
  pub ends : (m : Mode) → GoesOff (lost m) (off m)

-- ---- the session is over

-- how the requests have landed
abbrev pub outcomes : Core → List (Option Outcome)
outcomes core = map (λ (o : Open). o.landed) core.requests

-- the power is cut then
abbrev pub cut_shelf : Device
cut_shelf =
    let shelf = faulted true in
    record shelf { power = false; orders = record { made = 1; last = Some (arrange.Cut 0); alone = None }; counts = record shelf.counts { cuts = 1 } }

abbrev pub dark : Mode → State
dark m = state cut_shelf (all_dark (off m).core)

-- A session that is off is sound, and so it is once the power is cut; its request keeps the answer that it is off.
pub record EndedSessionsAreSound : Type 0 where
  pub over : (m : Mode) → IsSound (off m)
  pub landed : (m : Mode) → outcomes (off m).core ≡ Some outcome.Off ∷ []
  pub cut : (m : Mode) → ArrangesSession (off m) (dark m) (arrange.Cut 0) true
  pub after : (m : Mode) → IsSound (dark m)
  pub still : (m : Mode) → outcomes (dark m).core ≡ Some outcome.Off ∷ []
