-- Turns and calls run a session on, one after the other.
use Rattle.std.specs.Prelude.{◌≡◌, ℕ, Bool, List, Option, Result}
use Rattle.lvm_disk.specs.declared.shelf.Arrange.{Arrange}
use Rattle.lvm_disk.specs.Counts.{Counts}
use Rattle.lvm_disk.specs.Device.{HasSectors}
use Rattle.lvm_path.specs.declared.ask.Ask.{Ask}
use Rattle.lvm_session.specs.declared.open.Power.TheVariants as power
use Rattle.lvm_session.specs.declared.answers.AskFault.{AskFault}
use Rattle.lvm_num.specs.declared.place.Pp.{Pp}
use Rattle.lvm_session.specs.declared.answers.CopyFault.{CopyFault}
use Rattle.lvm_session.specs.declared.answers.OpenFault.{OpenFault}
use Rattle.lvm_session.specs.declared.answers.Taken.{Taken}
use Rattle.lvm_session.specs.declared.answers.Turned.{Turned}
use Rattle.lvm_session.specs.Asking.{IsAsking}
use Rattle.lvm_session.specs.Calls.{Closes, OpenGives, OpenMoveGives, SubmitGives, TakeGives}
use Rattle.lvm_session.specs.State.{Core, State, state}
use Rattle.lvm_session.specs.Sound.{IsSound}
use Rattle.lvm_session.specs.Turns.{ArrangesSession, TurnMakes}
use Rattle.lvm_tie.specs.Stamps.{AreValid}
use Rattle.lvm_tie.specs.Running.{LeavesSession, RunsOn}

-- Each turn of a sound session runs it on, where the shelf has whole sectors, and what is wanted and in flight are statuses that a record can have.
abbrev pub TurnRunsOn : Type 0
TurnRunsOn = (old new : State) (answer : Turned) → IsSound old → IsSound new → HasSectors new.device → AreValid old.core.status → TurnMakes old new answer → RunsOn old new

-- So does each call of a client; one that opens a copy, also to move it, and an order to the shelf leave the rest of it.
pub record CallsRunOn : Type 0 where
  pub submit : (s : State) (new : Core) (client : ℕ) (ask : Ask) (bytes : Option (List ℕ)) (answer : Result ℕ AskFault)
      → (s.core.power ≡ power.Stuck → ⊥) → IsSound (state s.device new) → IsAsking ask bytes → SubmitGives s.core new client ask bytes answer → RunsOn s (state s.device new)
  pub take : (s : State) (new : Core) (client id : ℕ) (answer : Taken) → IsSound s → IsSound (state s.device new) → TakeGives s.core new client id answer → RunsOn s (state s.device new)
  pub close_copy : (s : State) (new : Core) → IsSound (state s.device new) → Closes s.core new → RunsOn s (state s.device new)
  pub open_copy : (s : State) (new : Core) (counts : Counts) (lv lp number : ℕ) (answer : Result (Unit {0}) CopyFault)
      → IsSound (state s.device new) → OpenGives counts s.core new lv lp number answer → LeavesSession s (state s.device new)
  pub open_move : (s : State) (new : Core) (counts : Counts) (lv lp number : ℕ) (to : Pp) (answer : Result (Unit {0}) OpenFault)
      → IsSound (state s.device new) → OpenMoveGives counts s.core new lv lp number to answer → LeavesSession s (state s.device new)
  pub arrange : (old new : State) (what : Arrange) (done : Bool) → (old.core.power ≡ power.Stuck → ⊥) → IsSound old → IsSound new → ArrangesSession old new what done → LeavesSession old new

-- Nothing that happens runs on, and one run behind another is one.
pub record RunsJoin : Type 0 where
  pub none : (s : State) → RunsOn s s
  pub both : (old mid new : State) → RunsOn old mid → RunsOn mid new → RunsOn old new
  pub leaves : (old mid new : State) → LeavesSession old mid → LeavesSession mid new → LeavesSession old new
