-- Sessions in which a copy moves, written out.
use Rattle.std.specs.Prelude.{◌≡◌, ℕ, ◌==◌, true, false, if◌then◌else◌, [], ◌∷◌, Option, Some, None, replicate}
use Rattle.lvm_num.specs.declared.place.Pp.{Pp}
use Rattle.lvm_num.specs.declared.descriptor.Mode.{Mode}
use Rattle.lvm_num.specs.declared.descriptor.Mode.TheVariants as mode
use Rattle.lvm_hold.specs.declared.queue.Row.{Row}
use Rattle.lvm_kept.specs.passed.Vol.{Begun}
use Rattle.lvm_kept.specs.passed.Disk.{Device, Flight}
use Rattle.lvm_path.specs.passed.Sched.{TargetState}
use Rattle.lvm_path.specs.passed.SchedWritesTargetState as stage
use Rattle.lvm_path.specs.declared.request.Phase.TheVariants as phase
use Rattle.lvm_path.specs.declared.target.Target.{Target}
use Rattle.lvm_session.specs.declared.answers.CopyState.TheVariants as copy
use Rattle.lvm_session.specs.declared.bringing.CopyEnd.{CopyEnd}
use Rattle.lvm_session.specs.declared.bringing.CopyEnd.TheVariants as ending
use Rattle.lvm_session.specs.declared.bringing.OpenCopy.{OpenCopy}
use Rattle.lvm_session.specs.declared.flown.Owner.TheVariants as owner
use Rattle.lvm_session.specs.declared.open.Open.{Open}
use Rattle.lvm_session.specs.State.{state}
use Rattle.lvm_session.specs.Judging.{is_held_by_move, destination_aims}
use Rattle.lvm_session.specs.Calls.{copy_state}
use Rattle.lvm_session.specs.Requests.{IsRequest}
use Rattle.lvm_session.specs.Sound.{IsSound}
use Rattle.lvm_session.specs.Worked.{Moment, Says, a_write, asking, begun_write, bringing_up, calm, core_of, faultless, first_copy, fresh, row_for, second_copy, target_on}

-- a partition of the third disk, which no volume has
abbrev pub free_destination : Pp
free_destination = record { disk = 2; pp = 0 }

-- the second copy moves there, and so many of its track groups are copied
abbrev pub moving_to : ℕ → Option CopyEnd → OpenCopy
moving_to cursor end = record (bringing_up cursor end) { pp = free_destination; moves = true }

-- since the opening the destination counts as stale from the beginning on
abbrev pub destination_stale : Says
destination_stale = record fresh { place = true }

-- the row of its step in the queue, for the fourth
abbrev pub moving_row : Row
moving_row = record { id = 1; ask = record { lv = 1; at = 768; count = 256; write = false; copy = true } }

-- three are copied
abbrev pub open_move : Mode → Moment
open_move m = record (calm m) { rows = moving_row ∷ []; copy = Some (moving_to 3 None); origin = destination_stale }

-- all are, so that it is only to be committed
abbrev pub whole_move : Mode → Moment
whole_move m = record (calm m) { copy = Some (moving_to 8 None); origin = destination_stale }

-- a transfer to the third disk has failed, by which it has ended
abbrev pub ended_move : Mode → Moment
ended_move m = record (calm m) { copy = Some (moving_to 3 (Some ending.SyncFailed)); origin = destination_stale }

abbrev pub third_fails : Device
third_fails = record faultless { counts = record faultless.counts { faults = λ d. if d == 2 then 1 else 0 } }

-- ---- a write beside it

-- a target on the destination
abbrev pub on_destination : TargetState → Target
on_destination how = record (target_on free_destination how) { usable = false; moves = true }

-- A write of the first block, whose track group the move has passed, is done on both copies, and its transfer to the destination is out.
abbrev pub write_along : Open
write_along = asking 1 a_write phase.Data (target_on first_copy stage.Done ∷ target_on second_copy stage.Done ∷ on_destination stage.Flying ∷ [])

-- one that leaves the destination out
abbrev pub write_astray : Open
write_astray = asking 1 a_write phase.Data (target_on first_copy stage.Done ∷ target_on second_copy stage.Flying ∷ [])

abbrev pub along : Moment
along = record (open_move mode.Off) {
  facts = Begun begun_write ∷ [];
  requests = write_along ∷ [];
  rows = moving_row ∷ row_for 1 a_write ∷ [];
  pool = true ∷ [];
  flying = record { ticket = 1; disk = 2; owner = owner.Data 1 2 } ∷ [];
}

-- the transfer that is out
abbrev pub destination_flight : Flight
destination_flight = record { ticket = 1; disk = 2; first = 4096; count = 1; write = true; buf = record { number = 0; sectors = replicate 256 (replicate 512 0) } }

-- While a move runs a write goes to its destination too, where it has passed the track group: so the session is sound, and without that it isn't.
pub record WritesGoAlong : Type 0 where
  pub aims : destination_aims (core_of along) a_write ≡ free_destination ∷ []
  pub sound : IsSound (state (record faultless { flights = destination_flight ∷ [] }) (core_of along))
  pub unsound : IsRequest (core_of along) write_astray → ⊥

-- ---- what is sound

-- They are sound; a move of which all is copied is done, and what is asked of its logical partition waits for its commit.
pub record AreSoundMoves (m : Mode) : Type 0 where
  pub open_is : IsSound (state faultless (core_of (open_move m)))
  pub whole_is : IsSound (state faultless (core_of (whole_move m)))
  pub ended_is : IsSound (state third_fails (core_of (ended_move m)))
  pub done : copy_state (core_of (whole_move m)) ≡ copy.Done
  pub waits : is_held_by_move (core_of (whole_move m)) a_write ≡ true

-- So it is in whatever mode the volume is.
abbrev pub MovesAreSound : Type 0
MovesAreSound = (m : Mode) → AreSoundMoves m
