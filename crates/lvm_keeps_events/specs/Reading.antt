-- Where a read gets its blocks.
use Rattle.std.specs.Prelude.{◌≡◌, ◌⊎◌, ℕ, true, false, Some, take, slice_get, IfSome}
use Rattle.lvm_num.specs.Buffer.{Buffer}
use Rattle.lvm_disk.specs.Steps.{EndsDone}
use Rattle.lvm_vol.specs.declared.entry.Outcome.TheVariants as outcome
use Rattle.lvm_vol.specs.Facts.{Landed}
use Rattle.lvm_vol.specs.Log.{request_of, with_fact}
use Rattle.lvm_path.specs.declared.target.Target.{Target}
use Rattle.lvm_path.specs.Asks.{count_of}
use Rattle.lvm_path.specs.Targets.{is_begun}
use Rattle.lvm_session.specs.declared.flown.Flown.{Flown}
use Rattle.lvm_session.specs.declared.flown.Owner.TheVariants as owner
use Rattle.lvm_session.specs.declared.open.Open.{Open}
use Rattle.lvm_session.specs.Judging.{is_waiting}
use Rattle.lvm_session.specs.State.{Core, State}
use Rattle.lvm_session.specs.declared.answers.Turned.{Turned}
use Rattle.lvm_session.specs.Events.{IsDataTransfer}
use Rattle.lvm_session.specs.Turns.{TurnMakes}
use Rattle.lvm_session.specs.Sound.{IsSound}

-- a read of the request's own blocks from one of its targets, which was out, has ended well and gives this buffer back
pub record HasRead (old new : State) (o : Open) (buf : Buffer) : Type 0 where
  pub at : ℕ
  pub row : Flown
  pub out : slice_get old.core.flying at ≡ Some row
  pub target : ℕ
  pub own : row.owner ≡ owner.Data o.request.id target
  pub aim : Target
  pub aim_is : slice_get o.request.targets.items target ≡ Some aim
  pub ends : EndsDone old.device new.device row.ticket buf
  pub moves : IsDataTransfer old.core o.request aim ends.flight
  pub read : ends.flight.write ≡ false

-- the request had the buffer in hand before, or has just read it
abbrev pub IsItsBuffer : State → State → Open → Buffer → Type 0
IsItsBuffer old new o buf = (o.got ≡ Some buf) ⊎ HasRead old new o buf

-- it lands as Got with the first blocks of the buffer that it had in hand
pub record GetsItsBuffer (old new : Core) (o : Open) : Type 0 where
  pub buf : Buffer
  pub hand : o.got ≡ Some buf
  pub told : new.history ≡ with_fact old.history (Landed (request_of old.history.facts o.request.id) outcome.Got (is_begun o.request.targets.items) (take (count_of o.request.ask) buf.sectors))

-- The blocks of a Got are those of the buffer that a finished read of this very request gave back: with no others it lands so, and no other buffer comes into
-- its hand.
pub record GetsItsBlocks (old new : State) : Type 0 where
  pub hand : (place : ℕ) (o n : Open) → slice_get old.core.requests place ≡ Some o → slice_get new.core.requests place ≡ Some n → IfSome n.got (IsItsBuffer old new o)
  pub lands : (place : ℕ) (o n : Open) → slice_get old.core.requests place ≡ Some o → slice_get new.core.requests place ≡ Some n → is_waiting o ≡ true → n.landed ≡ Some outcome.Got → GetsItsBuffer old.core new.core o

-- Each turn of a sound session gives reads their blocks so.
abbrev pub ReadsGetTheirs : Type 0
ReadsGetTheirs = (old new : State) (answer : Turned) → IsSound old → TurnMakes old new answer → GetsItsBlocks old new
