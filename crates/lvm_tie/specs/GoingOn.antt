-- A good session goes on: over a turn, and over the calls of its clients.
use Rattle.std.specs.Prelude.{◌≡◌, ℕ, Bool, List, Option, Result}
use Rattle.lvm_num.specs.declared.place.Pp.{Pp}
use Rattle.lvm_num.specs.Status.{IsValidStatus}
use Rattle.lvm_disk.specs.declared.shelf.Arrange.{Arrange}
use Rattle.lvm_disk.specs.Counts.{Counts}
use Rattle.lvm_disk.specs.Device.{HasSectors}
use Rattle.lvm_kept.specs.Moments.{Moment}
use Rattle.lvm_path.specs.declared.ask.Ask.{Ask}
use Rattle.lvm_session.specs.declared.open.Power.TheVariants as power
use Rattle.lvm_session.specs.State.{Core, State, moment_of, state}
use Rattle.lvm_session.specs.declared.answers.AskFault.{AskFault}
use Rattle.lvm_session.specs.declared.answers.CopyFault.{CopyFault}
use Rattle.lvm_session.specs.declared.answers.OpenFault.{OpenFault}
use Rattle.lvm_session.specs.declared.answers.Taken.{Taken}
use Rattle.lvm_session.specs.declared.answers.Turned.{Turned}
use Rattle.lvm_session.specs.Calls.{Closes, OpenGives, OpenMoveGives, SubmitGives, TakeGives}
use Rattle.lvm_session.specs.Turns.{ArrangesSession, TurnMakes}
use Rattle.lvm_session.specs.Asking.{IsAsking}
use Rattle.lvm_session.specs.Sound.{IsSound}
use Rattle.lvm_tie.specs.Tied.{IsGood}
use Rattle.lvm_steps.specs.Moments.{SpanGoesOn}

-- From whatever moment its run is told: a good session is good after it, and a span goes on over what happens, so that at each moment of it the history is legal
-- and each crash image kept with it.
abbrev pub SessionGoesOn : ℕ → State → State → Type 0
SessionGoesOn run old new = (first : Moment) → IsGood run first old → IsGood run first new × SpanGoesOn run first (moment_of old) (moment_of new)

-- So it is over a turn, where the shelf has whole sectors and what is wanted is a status that a record can have;
abbrev pub TurnGoesOn : Type 0
TurnGoesOn =
    (run : ℕ) (old new : State) (answer : Turned) → IsSound old → IsSound new → HasSectors new.device → IsValidStatus old.core.status.wanted → TurnMakes old new answer
    → SessionGoesOn run old new

-- over a request that is submitted, or isn't taken;
abbrev pub SubmitGoesOn : Type 0
SubmitGoesOn = (run : ℕ) (s : State) (new : Core) (client : ℕ) (ask : Ask) (bytes : Option (List ℕ)) (answer : Result ℕ AskFault)
    → (s.core.power ≡ power.Stuck → ⊥) → IsSound (state s.device new) → IsAsking ask bytes → SubmitGives s.core new client ask bytes answer → SessionGoesOn run s (state s.device new)

-- over an answer that is taken, or isn't there yet, where the span is of the session's run;
abbrev pub AnswerGoesOn : Type 0
AnswerGoesOn = (s : State) (new : Core) (client id : ℕ) (answer : Taken)
    → IsSound s → IsSound (state s.device new) → TakeGives s.core new client id answer → SessionGoesOn s.core.history.run s (state s.device new)

-- over a copy that is opened, or isn't, or is closed;
abbrev pub OpenGoesOn : Type 0
OpenGoesOn = (run : ℕ) (s : State) (new : Core) (counts : Counts) (lv lp number : ℕ) (answer : Result (Unit {0}) CopyFault)
    → IsSound (state s.device new) → OpenGives counts s.core new lv lp number answer → SessionGoesOn run s (state s.device new)

-- so it is over a copy that begins to move, or doesn't;
abbrev pub OpenMoveGoesOn : Type 0
OpenMoveGoesOn = (run : ℕ) (s : State) (new : Core) (counts : Counts) (lv lp number : ℕ) (to : Pp) (answer : Result (Unit {0}) OpenFault)
    → IsSound (state s.device new) → OpenMoveGives counts s.core new lv lp number to answer → SessionGoesOn run s (state s.device new)

abbrev pub CloseGoesOn : Type 0
CloseGoesOn = (run : ℕ) (s : State) (new : Core) → IsSound (state s.device new) → Closes s.core new → SessionGoesOn run s (state s.device new)

-- and over an order to the shelf.
abbrev pub ArrangeGoesOn : Type 0
ArrangeGoesOn = (run : ℕ) (old new : State) (what : Arrange) (done : Bool) → (old.core.power ≡ power.Stuck → ⊥) → IsSound old → IsSound new → ArrangesSession old new what done → SessionGoesOn run old new
