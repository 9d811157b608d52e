-- Requests that land, and are taken.
use Rattle.std.specs.Prelude.{ℕ, List}
use Rattle.lvm_vol.specs.Facts.{Fact}
use Rattle.lvm_session.specs.declared.answers.Taken.{Taken}
use Rattle.lvm_vol.specs.declared.entry.Outcome.{Outcome}
use Rattle.lvm_session.specs.Calls.{TakeGives}
use Rattle.lvm_session.specs.Events.{Lands}
use Rattle.lvm_session.specs.State.{Core, State, state}
use Rattle.lvm_session.specs.Sound.{IsSound}
use Rattle.lvm_tie.specs.Tied.{IsTied, Ties}

-- A request that lands leaves a tied session tied.
abbrev pub LandTies : Type 0
LandTies = (place : ℕ) (how : Outcome) → Ties (λ old new. Lands old new place how)

-- So does an answer that is taken, or isn't there yet.
abbrev pub TakeTies : Type 0
TakeTies =
    (past : List Fact) (s : State) (new : Core) (client id : ℕ) (answer : Taken)
    → IsTied past s → IsSound (state s.device new) → TakeGives s.core new client id answer → IsTied past (state s.device new)
