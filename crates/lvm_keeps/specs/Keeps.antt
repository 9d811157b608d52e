-- Each event of a sound session leaves it sound.
use Rattle.std.specs.Prelude.{◌≡◌, ◌≤◌, ◌||◌, true, false, ℕ, Bool, List, length, Option, Some, Result, slice_get}
use Rattle.lvm_num.specs.declared.place.Pp.{Pp}
use Rattle.lvm_session.specs.passed.Disk.{Arrange}
use Rattle.lvm_vol.specs.declared.entry.Outcome.{Outcome}
use Rattle.lvm_session.specs.declared.open.Power.TheVariants as power
use Rattle.lvm_session.specs.State.{Core, State, state}
use Rattle.lvm_session.specs.declared.answers.Taken.{Taken}
use Rattle.lvm_path.specs.declared.ask.Ask.{Ask}
use Rattle.lvm_session.specs.declared.answers.AskFault.{AskFault}
use Rattle.lvm_session.specs.declared.answers.CopyFault.{CopyFault}
use Rattle.lvm_session.specs.Calls.{Closes, OpenGives, SubmitGives, TakeGives}
use Rattle.lvm_session.specs.Ends.{Ends}
use Rattle.lvm_session.specs.Events.{Admits, Lands, Pins, ReadsCopy, StartsData, StartsNote, StartsStatus, WritesCopy}
use Rattle.lvm_session.specs.Turns.{ArrangesSession, Darkens, Finds, GoesOff}
use Rattle.lvm_path.specs.Asks.{is_write}
use Rattle.lvm_path.specs.Targets.{is_begun}
use Rattle.lvm_session.specs.declared.open.Open.{Open}
use Rattle.lvm_session.specs.Judging.{copies_for, has_dirty_mark, has_names, mode_of, pps_of}
use Rattle.lvm_session.specs.Enabled.{is_lost, target_due}
use Rattle.lvm_session.specs.Marks.{is_among}
use Rattle.lvm_session.specs.Requests.{is_left_out}
use Rattle.lvm_session.specs.Causes.{AnyFailedSince, IsLandedFor}
use Rattle.lvm_session.specs.Sound.{IsSound}
use Rattle.lvm_session.specs.Asking.{IsAsking, IsAwake}

-- an event of a session that is on leaves it sound
abbrev pub KeepsSound : (State → State → Type 0) → Type 0
KeepsSound Event = (old new : State) → IsSound old → old.core.power ≡ power.On → Event old new → IsSound new

-- ---- the events of a turn

abbrev pub LandingKeeps : Type 0
LandingKeeps = (place : ℕ) (how : Outcome) → KeepsSound (λ old new. Lands old new place how)

abbrev pub AdmissionKeeps : Type 0
AdmissionKeeps = (place : ℕ) → KeepsSound (λ old new. Admits old new place)

abbrev pub PinKeeps : Type 0
PinKeeps = (place : ℕ) → KeepsSound (λ old new. Pins old new place)

abbrev pub StatusStartKeeps : Type 0
StatusStartKeeps = KeepsSound StartsStatus

abbrev pub NoteStartKeeps : Type 0
NoteStartKeeps = (place disk : ℕ) → KeepsSound (λ old new. StartsNote old new place disk)

abbrev pub DataStartKeeps : Type 0
DataStartKeeps = (place target : ℕ) → KeepsSound (λ old new. StartsData old new place target)

abbrev pub CopyReadKeeps : Type 0
CopyReadKeeps = KeepsSound ReadsCopy

abbrev pub CopyWriteKeeps : Type 0
CopyWriteKeeps = KeepsSound WritesCopy

abbrev pub EndKeeps : Type 0
EndKeeps = (at : ℕ) → KeepsSound (λ old new. Ends old new at)

-- nothing has ended
abbrev pub WaitKeeps : Type 0
WaitKeeps = KeepsSound Finds

-- ---- the end of a session

abbrev pub CutKeeps : Type 0
CutKeeps = KeepsSound Darkens

abbrev pub OffKeeps : Type 0
OffKeeps = KeepsSound GoesOff

-- ---- the calls of a client, also of a session that is over

abbrev pub SubmitKeeps : Type 0
SubmitKeeps = (s : State) (new : Core) (client : ℕ) (ask : Ask) (bytes : Option (List ℕ)) (answer : Result ℕ AskFault)
    → IsSound s → IsAwake s.core → IsAsking ask bytes → SubmitGives s.core new client ask bytes answer → IsSound (state s.device new)

abbrev pub OpenKeeps : Type 0
OpenKeeps = (s : State) (new : Core) (lv lp number : ℕ) (answer : Result (Unit {0}) CopyFault)
    → IsSound s → IsAwake s.core → OpenGives s.device.counts s.core new lv lp number answer → IsSound (state s.device new)

abbrev pub TakeKeeps : Type 0
TakeKeeps = (s : State) (new : Core) (client id : ℕ) (answer : Taken) → IsSound s → TakeGives s.core new client id answer → IsSound (state s.device new)

abbrev pub CloseKeeps : Type 0
CloseKeeps = (s : State) (new : Core) → IsSound s → Closes s.core new → IsSound (state s.device new)

abbrev pub OrderKeeps : Type 0
OrderKeeps = (old new : State) (what : Arrange) (done : Bool) → IsSound old → ArrangesSession old new what done → IsSound new

-- ---- why requests land so

-- What a request lands as is due to faults since, as its outcome says.
abbrev pub LandingIsCaused : Type 0
LandingIsCaused = (place : ℕ) (how : Outcome) (old new : State) → IsSound old → old.core.power ≡ power.On → (event : Lands old new place how)
    → IsLandedFor old event.request how

-- The votes are lost only where some disk has failed since the session began.
abbrev pub LossIsCaused : Type 0
LossIsCaused = (s : State) → IsSound s → is_lost s.core ≡ true → AnyFailedSince s

-- ---- where a write goes

-- A write that starts its first transfer goes to each copy that isn't left out: which is stale, and which the copying hasn't passed.
abbrev pub FirstStartIsWhole : Type 0
FirstStartIsWhole = (s : State) (place target : ℕ) (o : Open) → IsSound s → s.core.power ≡ power.On → slice_get s.core.requests place ≡ Some o
    → target_due s.core o ≡ Some target → is_write o.request.ask ≡ true → is_begun o.request.targets.items ≡ false
    → (p : Pp) → is_among (copies_for s.core o.request.ask) p ≡ true → is_among (pps_of o.request.targets.items) p || is_left_out s.core o.request.ask p ≡ true

-- One that starts it at two targets or more has the records that its volume keeps: the notes of all its targets, or a settled dirty mark.
abbrev pub FirstStartIsNoted : Type 0
FirstStartIsNoted = (s : State) (place target : ℕ) (o : Open) → IsSound s → s.core.power ≡ power.On → slice_get s.core.requests place ≡ Some o
    → target_due s.core o ≡ Some target → is_write o.request.ask ≡ true → is_begun o.request.targets.items ≡ false → 2 ≤ length o.request.targets.items
    → (has_names s.core (mode_of s.core o.request.ask) o.request ≡ true) × (has_dirty_mark s.core (mode_of s.core o.request.ask) o.request ≡ true)
