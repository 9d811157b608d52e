-- Each event of a turn leaves less work, and a session never stands still.
use Rattle.std.specs.Prelude.{◌≡◌, ◌≤◌, ◌<◌, ◌+◌, ◌-◌, ◌*◌, ◌&&◌, not, ℕ, true, false, [], Some, None, IfSome, length, count_by}
use Rattle.std.specs.List.{list_any}
use Rattle.std.specs.Option.{option_map_or}
use Rattle.lvm_num.specs.declared.descriptor.PvRow.{PvRow}
use Rattle.lvm_session.specs.declared.bringing.OpenCopy.{OpenCopy}
use Rattle.lvm_session.specs.declared.event.Event.{Event}
use Rattle.lvm_session.specs.declared.open.Open.{Open}
use Rattle.lvm_session.specs.declared.open.Power.TheVariants as power
use Rattle.lvm_session.specs.State.{Core, State, is_there}
use Rattle.lvm_session.specs.Judging.{is_held_by_move, is_move_done, is_running, is_waiting}
use Rattle.lvm_session.specs.Bringing.{groups_of}
use Rattle.lvm_session.specs.Enabled.{first_event, is_lost}
use Rattle.lvm_session.specs.Ends.{Ends}
use Rattle.lvm_vol.specs.declared.entry.Outcome.{Outcome}
use Rattle.lvm_session.specs.Events.{Lands, Pins, ReadsCopy, StartsNote}
use Rattle.lvm_session.specs.Turns.{Makes}
use Rattle.lvm_session.specs.Causes.{is_over}
use Rattle.lvm_session.specs.Left.{left_of}
use Rattle.lvm_session.specs.Sound.{IsSound}

-- The first event that may be made leaves less work.
abbrev pub EventsFall : Type 0
EventsFall = (it : Event) (old new : State) → IsSound old → old.core.power ≡ power.On → first_event old.core ≡ Some it → Makes it old new
    → left_of new.core < left_of old.core

-- So does the end of a transfer, where no event may be made.
abbrev pub EndsFall : Type 0
EndsFall = (at : ℕ) (old new : State) → IsSound old → old.core.power ≡ power.On → first_event old.core ≡ None → Ends old new at
    → left_of new.core < left_of old.core

-- what the work of a session is at most
abbrev pub most_left : Core → ℕ
most_left core =
    1024 * length core.requests + 1024 * count_by (λ (row : PvRow). is_there core row.disk) core.descriptor.pvs + length core.flying
    + option_map_or (λ (c : OpenCopy). 1024 + 16 * (groups_of core - c.cursor)) core.copy 0

abbrev pub LeftIsBounded : Type 0
LeftIsBounded = (s : State) → IsSound s → left_of s.core ≤ most_left s.core

-- While the votes are there and no transfer is out, an event may be made unless each request has landed, but those on the logical partition of a move that is done, and
-- the copy that is open doesn't run, unless it is such a move, so that it is only to be committed.
abbrev pub NeverStandsStill : Type 0
NeverStandsStill = (s : State) → IsSound s → s.core.power ≡ power.On → is_lost s.core ≡ false → first_event s.core ≡ None → s.device.flights ≡ []
    → (list_any (λ (o : Open). is_waiting o && not (is_held_by_move s.core o.request.ask)) s.core.requests ≡ false)
    × IfSome s.core.copy (λ (c : OpenCopy). is_running c && not (is_move_done s.core c) ≡ false)

-- So does a pin.
abbrev pub PinFalls : Type 0
PinFalls = (place : ℕ) (old new : State) → IsSound old → old.core.power ≡ power.On → is_lost old.core ≡ false → Pins old new place
    → left_of new.core < left_of old.core

-- And so does a landing.
abbrev pub LandingFalls : Type 0
LandingFalls = (place : ℕ) (how : Outcome) (old new : State) → IsSound old → old.core.power ≡ power.On → Lands old new place how
    → left_of new.core < left_of old.core

-- And so does the start of the read by which a copy is brought up.
abbrev pub CopyReadFalls : Type 0
CopyReadFalls = (old new : State) → IsSound old → old.core.power ≡ power.On → is_lost old.core ≡ false → ReadsCopy old new → left_of new.core < left_of old.core

-- And so does the start of a note.
abbrev pub NoteStartFalls : Type 0
NoteStartFalls = (place disk : ℕ) (old new : State) → IsSound old → old.core.power ≡ power.On → is_lost old.core ≡ false → StartsNote old new place disk → left_of new.core < left_of old.core

-- Nothing is left once a session is over.
abbrev pub OverLeavesNothing : Type 0
OverLeavesNothing = (s : State) → is_over s.core.power ≡ true → left_of s.core ≡ 0
