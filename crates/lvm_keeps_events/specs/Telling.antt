-- What the answer of a turn tells.
use Rattle.std.specs.Prelude.{◌≡◌, ◌⊎◌, ◌↔◌, ◌<◌, true, None, length}
use Rattle.lvm_disk.specs.Counts.{NoneFalls}
use Rattle.lvm_session.specs.declared.open.Power.{Power}
use Rattle.lvm_session.specs.declared.open.Power.TheVariants as power
use Rattle.lvm_session.specs.Enabled.{first_event}
use Rattle.lvm_session.specs.State.{Core, State}
use Rattle.lvm_session.specs.declared.answers.Turned.{Turned}
use Rattle.lvm_session.specs.declared.answers.Turned.TheVariants as turned
use Rattle.lvm_session.specs.Turns.{Finds, FindsNothing, TurnMakes}
use Rattle.lvm_session.specs.Left.{left_of}
use Rattle.lvm_session.specs.Sound.{IsOver, IsSound}
use Rattle.lvm_keeps_events.specs.Turning.{is_last}

-- whether the session goes on behind a turn that answers so
abbrev pub power_by : Turned → Power
power_by turned.Moved = power.On
power_by turned.Idle = power.On
power_by turned.Dark = power.Dark
power_by turned.Off = power.Off

-- no event may be made, and no transfer is out or none has ended
pub record CannotGoOn (old new : State) : Type 0 where
  pub on : old.core.power ≡ power.On
  pub none : first_event old.core ≡ None
  pub still : Finds old new ⊎ FindsNothing old new

-- A turn answers Dark or Off exactly where the session is over by a power cut or by lost votes, Idle exactly where nothing may be made, and Moved where less
-- work is left. Once it is over each request has landed and nothing is out.
pub record TurnTells (old new : State) (answer : Turned) : Type 0 where
  pub power_is : new.core.power ≡ power_by answer
  pub idle : (answer ≡ turned.Idle) ↔ CannotGoOn old new
  pub moved : answer ≡ turned.Moved → left_of new.core < left_of old.core
  pub over : is_last answer ≡ true → IsOver new

-- the room that a session has: of its table and of its pool
pub record SameRoom (old new : Core) : Type 0 where
  pub most : new.most ≡ old.most
  pub long : length new.pool ≡ length old.pool

-- ---- laws

-- The answer of each turn of a sound session tells so.
abbrev pub TurnsTell : Type 0
TurnsTell = (old new : State) (answer : Turned) → IsSound old → TurnMakes old new answer → TurnTells old new answer

-- Each turn leaves the room as it was.
abbrev pub RoomStays : Type 0
RoomStays = (old new : State) (answer : Turned) → TurnMakes old new answer → SameRoom old.core new.core

-- No count of the shelf falls in a turn.
abbrev pub CountsNeverFall : Type 0
CountsNeverFall = (old new : State) (answer : Turned) → TurnMakes old new answer → NoneFalls old.device.counts new.device.counts
