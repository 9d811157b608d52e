-- How a run ends behind its last line.
use Rattle.std.specs.Prelude.{◌≡◌, ◌≢◌, ℕ, [], Option, Some, None}
use Rattle.lvm_kept.specs.Moments.{Moment}
use Rattle.lvm_session.specs.declared.answers.Turned.{Turned}
use Rattle.lvm_session.specs.declared.answers.Turned.TheVariants as turned
use Rattle.lvm_session.specs.State.{Core, State, state}
use Rattle.lvm_session.specs.Sound.{IsSound}
use Rattle.lvm_session.specs.Turns.{TurnMakes}
use Rattle.lvm_line.specs.passed.KeepsEvents.{TurnTells}
use Rattle.lvm_line.specs.passed.Tie.{RunsOn}
use Rattle.lvm_line.specs.passed.Ranges.{MovesTurns}
use Rattle.lvm_line.specs.passed.GroupLines.{IsClosed}

-- turns are made until one doesn't move, and no turn more
pub record MakesTurns (old new : State) : Type 0 where
  pub moved : ℕ
  pub mid : State
  pub moves : MovesTurns old moved mid
  pub answer : Turned
  pub last : TurnMakes mid new answer
  pub tells : TurnTells mid new answer
  pub unmoved : answer ≡ turned.Moved → ⊥

-- no request is open, no update is in flight, and what is wanted is committed
pub record HasNothingLeft (core : Core) : Type 0 where
  pub requests : core.requests ≡ []
  pub in_flight : core.status.in_flight ≡ None
  pub committed : core.status.committed ≡ core.status.wanted

-- nothing is under way, and no transfer is out
pub record HasNothingLeftOrOut (s : State) : Type 0 where
  pub quiet : HasNothingLeft s.core
  pub flights : s.device.flights ≡ []

-- Nothing is left to be made of a session; or turns of it are made, and it is closed without a write; after a power cut the power is put on again.
pub data RunsOut (old : State) (exit : Moment) : Type 0 where
  NothingIsLeft : HasNothingLeftOrOut old → exit.device ≡ record old.device { freed = [] } → exit.facts ≡ old.core.history.facts → RunsOut old exit
  TurnsAreMade : (last : State) → (HasNothingLeftOrOut old → ⊥) → MakesTurns old last → RunsOn old last → IsSound last → IsClosed last.core.power last.device exit.device → exit.facts ≡ last.core.history.facts → RunsOut old exit

-- Where no group is on, or one without volumes, nothing happens. Else the session, which is of this run, runs out.
pub data Concludes (run : ℕ) (end exit : Moment) (on : Option Core) : Type 0 where
  NoneIsOn : on ≡ None → exit ≡ end → Concludes run end exit on
  NoneIsServed : (core : Core) → on ≡ Some core → core.descriptor.lvs ≡ [] → exit ≡ end → Concludes run end exit on
  IsServed : (core : Core) → on ≡ Some core → core.descriptor.lvs ≢ [] → core.history.run ≡ run → end.facts ≡ core.history.facts → RunsOut (state end.device core) exit → Concludes run end exit on
