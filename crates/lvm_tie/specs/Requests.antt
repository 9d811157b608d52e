-- Requests that are submitted, admitted and pin their track group.
use Rattle.std.specs.Prelude.{ℕ, List, Option, Result}
use Rattle.lvm_vol.specs.Facts.{Fact}
use Rattle.lvm_path.specs.declared.ask.Ask.{Ask}
use Rattle.lvm_session.specs.declared.answers.AskFault.{AskFault}
use Rattle.lvm_session.specs.Calls.{SubmitGives}
use Rattle.lvm_session.specs.Events.{Admits, Pins}
use Rattle.lvm_session.specs.State.{Core, State, state}
use Rattle.lvm_session.specs.Asking.{IsAsking}
use Rattle.lvm_session.specs.Sound.{IsSound}
use Rattle.lvm_tie.specs.Tied.{IsTied, Ties}

-- A request that is submitted, or isn't taken, leaves a tied session tied.
abbrev pub SubmitTies : Type 0
SubmitTies =
    (past : List Fact) (s : State) (new : Core) (client : ℕ) (ask : Ask) (bytes : Option (List ℕ)) (answer : Result ℕ AskFault)
    → IsTied past s → IsSound (state s.device new) → IsAsking ask bytes → SubmitGives s.core new client ask bytes answer → IsTied past (state s.device new)

-- So does one that is admitted, or admitted again, also where its volume is wanted dirty with it.
abbrev pub AdmitTies : Type 0
AdmitTies = (place : ℕ) → Ties (λ old new. Admits old new place)

-- And one that pins its track group.
abbrev pub PinTies : Type 0
PinTies = (place : ℕ) → Ties (λ old new. Pins old new place)
