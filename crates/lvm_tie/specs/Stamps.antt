-- What a session leaves on its disks stays behind each moment after its own, and so does its history.
use Rattle.std.specs.Prelude.{◌≡◌, ◌≢◌, IfSome, ℕ, ◌^◌, ◌<◌, Bool, List, Option, Result, Some}
use Rattle.lvm_num.specs.declared.place.Pp.{Pp}
use Rattle.lvm_num.specs.declared.record.Stamp.{Stamp}
use Rattle.lvm_num.specs.declared.status.Status.{Status}
use Rattle.lvm_num.specs.Status.{IsValidStatus}
use Rattle.lvm_vol.specs.Legal.{IsLater}
use Rattle.lvm_disk.specs.declared.shelf.Arrange.{Arrange}
use Rattle.lvm_disk.specs.Counts.{Counts}
use Rattle.lvm_steps.specs.Behind.{beginning_at}
use Rattle.lvm_steps.specs.Laws.{LeavesBefore}
use Rattle.lvm_status.specs.Update.{Stored}
use Rattle.lvm_path.specs.declared.ask.Ask.{Ask}
use Rattle.lvm_session.specs.State.{Core, State}
use Rattle.lvm_session.specs.declared.answers.AskFault.{AskFault}
use Rattle.lvm_session.specs.declared.answers.CopyFault.{CopyFault}
use Rattle.lvm_session.specs.declared.answers.OpenFault.{OpenFault}
use Rattle.lvm_session.specs.declared.answers.Taken.{Taken}
use Rattle.lvm_session.specs.declared.answers.Turned.{Turned}
use Rattle.lvm_session.specs.declared.open.Power.TheVariants as power
use Rattle.lvm_session.specs.Calls.{Closes, OpenGives, OpenMoveGives, SubmitGives, TakeGives}
use Rattle.lvm_session.specs.Turns.{ArrangesSession, TurnMakes}
use Rattle.lvm_session.specs.Sound.{IsSound}

-- Its stamp is of an epoch of eight bytes that isn't 0, and an update in flight has a number that isn't 0.
pub record IsStamped (status : Stored) : Type 0 where
  pub some_epoch : status.stamp.epoch ≢ 0
  pub epoch : status.stamp.epoch < 2 ^ 64
  pub begun : (u : Status) → status.in_flight ≡ Some u → status.stamp.seq ≢ 0

-- what is wanted, and what is in flight, is a status that a record can have
pub record AreValid (status : Stored) : Type 0 where
  pub wanted : IsValidStatus status.wanted
  pub in_flight : IfSome status.in_flight IsValidStatus

-- ---- laws

-- Where all that a crash may leave is from before a moment after the session's own, it is so after each turn,
abbrev pub TurnLeavesBefore : Type 0
TurnLeavesBefore = (moment : ℕ) (old new : State) (answer : Turned) → IsSound old → IsSound new → IsStamped old.core.status → AreValid old.core.status
    → old.core.status.stamp.epoch < moment → LeavesBefore (beginning_at moment) old.device → TurnMakes old new answer → LeavesBefore (beginning_at moment) new.device

-- and after an order of a client.
abbrev pub ArrangeLeavesBefore : Type 0
ArrangeLeavesBefore = (stamp : Stamp) (old new : State) (what : Arrange) (done : Bool)
    → ArrangesSession old new what done → LeavesBefore stamp old.device → LeavesBefore stamp new.device

-- the stamp stays one of the same epoch
pub record KeepsEpoch (old new : Stored) : Type 0 where
  pub epoch : new.stamp.epoch ≡ old.stamp.epoch
  pub stamped : IsStamped old → IsStamped new

-- So it does over each turn, unless the power is found off.
abbrev pub TurnKeepsEpoch : Type 0
TurnKeepsEpoch = (old new : State) (answer : Turned) → TurnMakes old new answer → (new.core.power ≡ power.Dark → ⊥) → KeepsEpoch old.core.status new.core.status

-- A moment that is later than those of its history stays so.
abbrev pub TurnIsEarlier : Type 0
TurnIsEarlier = (moment : ℕ) (old new : State) (answer : Turned) → TurnMakes old new answer → IsLater old.core.history.facts moment → IsLater new.core.history.facts moment

-- the status stays as it is, and a moment that is later than those of the history stays so
pub record StaysOf (old new : Core) : Type 0 where
  pub status : new.status ≡ old.status
  pub later : (moment : ℕ) → IsLater old.history.facts moment → IsLater new.history.facts moment

-- So it is over each call of a client.
pub record CallsStay : Type 0 where
  pub submit : (client : ℕ) (ask : Ask) (bytes : Option (List ℕ)) (answer : Result ℕ AskFault) (old new : Core) → SubmitGives old new client ask bytes answer → StaysOf old new
  pub take : (client id : ℕ) (answer : Taken) (old new : Core) → TakeGives old new client id answer → StaysOf old new
  pub open_copy : (counts : Counts) (lv lp number : ℕ) (answer : Result (Unit {0}) CopyFault) (old new : Core)
      → OpenGives counts old new lv lp number answer → StaysOf old new
  pub open_move : (counts : Counts) (lv lp number : ℕ) (to : Pp) (answer : Result (Unit {0}) OpenFault) (old new : Core)
      → OpenMoveGives counts old new lv lp number to answer → StaysOf old new
  pub close_copy : (old new : Core) → Closes old new → StaysOf old new
  pub arrange : (old new : State) (what : Arrange) (done : Bool) → ArrangesSession old new what done → StaysOf old.core new.core
