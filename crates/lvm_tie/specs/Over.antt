-- The end of a session, orders to its shelf, and answers that are taken: at each moment between the history is legal, and each crash image is kept with it.
use Rattle.std.specs.Prelude.{◌≡◌, ℕ, Bool}
use Rattle.lvm_disk.specs.declared.shelf.Arrange.{Arrange}
use Rattle.lvm_kept.specs.Moments.{Moment}
use Rattle.lvm_session.specs.declared.open.Power.TheVariants as power
use Rattle.lvm_session.specs.State.{State, moment_of}
use Rattle.lvm_session.specs.declared.answers.Taken.{Taken}
use Rattle.lvm_session.specs.Calls.{TakeGives}
use Rattle.lvm_session.specs.Turns.{Darkens, GoesOff, ArrangesSession}
use Rattle.lvm_session.specs.Sound.{IsSound}
use Rattle.lvm_tie.specs.Tied.{IsGood}
use Rattle.lvm_steps.specs.Moments.{SpanGoesOn}

-- Where the votes of a good session are lost, each landing as Off is a moment, and a span goes on over them all.
abbrev pub OffGoesOn : Type 0
OffGoesOn = (run : ℕ) (first : Moment) (old new : State) → old.core.power ≡ power.On → IsGood run first old → GoesOff old new → SpanGoesOn run first (moment_of old) (moment_of new)

-- So it does where the power is found off, or cut: over the step of the shelf, the cut in the history, and each landing as Dark.
abbrev pub DarkGoesOn : Type 0
DarkGoesOn = (run : ℕ) (first : Moment) (old new : State) → old.core.power ≡ power.On → IsGood run first old → Darkens old new → SpanGoesOn run first (moment_of old) (moment_of new)

-- And over an order of a client, also a power cut, and also where the session is over already.
abbrev pub OrderGoesOn : Type 0
OrderGoesOn =
    (run : ℕ) (first : Moment) (old new : State) (what : Arrange) (done : Bool) → (old.core.power ≡ power.Stuck → ⊥) → IsSound old → IsGood run first old → ArrangesSession old new what done → SpanGoesOn run first (moment_of old) (moment_of new)

-- An order leaves a good session good, if it is on then.
abbrev pub OrderTies : Type 0
OrderTies =
    (run : ℕ) (first : Moment) (old new : State) (what : Arrange) (done : Bool) → IsGood run first old → IsSound new → ArrangesSession old new what done → IsGood run first new

-- ---- answers

-- A client takes an answer, or has none to take.
pub record TakesAnswer (old new : State) (client id : ℕ) (answered : Taken) : Type 0 where
  pub device : new.device ≡ old.device
  pub takes : TakeGives old.core new.core client id answered

-- A span of the session's run goes on over it, also where the session is over.
abbrev pub TakeGoesOn : Type 0
TakeGoesOn =
    (first : Moment) (old new : State) (client id : ℕ) (answered : Taken) → IsSound old → TakesAnswer old new client id answered → SpanGoesOn old.core.history.run first (moment_of old) (moment_of new)
