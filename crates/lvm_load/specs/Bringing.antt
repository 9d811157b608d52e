-- Stale copies of a volume are brought up, beside the workers of a load and behind them.
use Rattle.std.specs.Prelude.{◌≡◌, ◌&&◌, ◌+◌, ◌/◌, ◌%◌, ℕ, nat_lt, if◌then◌else◌, Bool, true, false, not, Option, Some, None, Result, Ok, Err, IfErr}
use Rattle.std.specs.List.{list_any}
use Rattle.lvm_num.specs.Votes.{total_votes}
use Rattle.lvm_keeps_events.specs.Telling.{TurnTells}
use Rattle.lvm_keeps_events.specs.passed.Calls.{counts_seen}
use Rattle.lvm_driver.specs.passed.Going.{LeavesSession, RunsOn}
use Rattle.lvm_workers.specs.declared.bring.Brought.{Brought}
use Rattle.lvm_workers.specs.declared.bring.Brought.TheVariants as brought
use Rattle.lvm_session.specs.declared.answers.Turned.{Turned}
use Rattle.lvm_session.specs.declared.answers.Turned.TheVariants as turned
use Rattle.lvm_session.specs.Turns.{TurnMakes}
use Rattle.lvm_ranges.specs.Passing.{Runs}
use Rattle.lvm_session.specs.declared.answers.CopyFault.{CopyFault}
use Rattle.lvm_session.specs.declared.answers.CopyFault.TheVariants as refusal
use Rattle.lvm_session.specs.declared.answers.CopyState.TheVariants as copy
use Rattle.lvm_session.specs.declared.open.Power.{Power}
use Rattle.lvm_session.specs.declared.open.Power.TheVariants as power
use Rattle.lvm_session.specs.Calls.{OpenGives, closed, copy_state, is_asked}
use Rattle.lvm_session.specs.State.{State, state, votes_there}
use Rattle.lvm_ranges.specs.declared.fault.SyncFault.{SyncFault}
use Rattle.lvm_ranges.specs.declared.fault.SyncFault.TheVariants as fault
use Rattle.lvm_ranges.specs.Causes.{SyncCause}
use Rattle.lvm_ranges.specs.Syncing.{SyncGives, volume_copies, volume_fault}
use Rattle.lvm_ranges.specs.Turning.{GoesBeside}
use Rattle.lvm_load.specs.declared.serve.Synced.{Synced}
use Rattle.lvm_load.specs.Settling.{Settles}

-- ---- beside the workers

-- a copy is opened or closed, or neither: nothing is entered, no request comes or goes, and no order is given
pub record EntersNone (old new : State) : Type 0 where
  pub leaves : LeavesSession old new
  pub orders : new.device.orders ≡ old.device.orders
  pub history : new.core.history ≡ old.core.history
  pub asked : (client id : ℕ) → list_any (is_asked client id) new.core.requests ≡ list_any (is_asked client id) old.core.requests

-- the places of a volume go by logical partitions, and then by copies, three for each, which are numbered from 1
abbrev pub part_of : ℕ → ℕ
part_of at = at / 3

abbrev pub number_of : ℕ → ℕ
number_of at = at % 3 + 1

-- what comes behind a copy that isn't opened for this: the next one; or none, where the session takes none, or the volume has no such logical partition
abbrev pub behind : CopyFault → ℕ → Brought
behind refusal.OutOfRange number = if nat_lt 1 number then brought.Next else brought.Over
behind refusal.Busy number = brought.Next
behind refusal.AlreadyFresh number = brought.Next
behind (refusal.Missing disk) number = brought.Next
behind refusal.NoFresh number = brought.Next
behind refusal.Dark number = brought.Over
behind refusal.Off number = brought.Over
behind refusal.NoVolume number = brought.Over
behind refusal.HistoryFull number = brought.Over

abbrev pub behind_opening : Result (Unit {0}) CopyFault → ℕ → Brought
behind_opening (Ok done) number = brought.Moved
behind_opening (Err why) number = behind why number

abbrev pub behind_turn : Turned → Brought
behind_turn turned.Idle = brought.Idle
behind_turn _ = brought.Moved

-- a turn is made
pub data TurnsOn (old new : State) (answer : Brought) : Type 0 where
  OneTurn : (said : Turned) → Runs old.core → TurnMakes old new said → TurnTells old new said → RunsOn old new → answer ≡ behind_turn said → TurnsOn old new answer

-- One event for the copy of a place: none is open, and the volume's copy of that place is opened, or isn't, for a cause; a turn is made while one is brought up; or
-- one that has ended is closed.
pub data BringsOn (lv at : ℕ) (old new : State) (answer : Brought) : Type 0 where
  ByOpening : copy_state old.core ≡ copy.Closed → EntersNone old new → (given : Result (Unit {0}) CopyFault)
      → OpenGives (counts_seen old.device old.core) old.core new.core lv (part_of at) (number_of at) given → answer ≡ behind_opening given (number_of at) → BringsOn lv at old new answer
  ByTurn : (cursor : ℕ) → copy_state old.core ≡ copy.Running cursor → TurnsOn old new answer → BringsOn lv at old new answer
  ByClosing : (copy_state old.core ≡ copy.Closed → ⊥) → ((cursor : ℕ) → copy_state old.core ≡ copy.Running cursor → ⊥) → EntersNone old new → new.core ≡ closed old.core → answer ≡ brought.Next → BringsOn lv at old new answer

-- so it is where copies are brought up; else none is
abbrev pub BringsIf : Bool → ℕ → ℕ → State → State → Brought → Type 0
BringsIf true lv at old new answer = BringsOn lv at old new answer
BringsIf false lv at old new answer = (new ≡ old) × (answer ≡ brought.Over)

-- ---- behind them

-- the copy that is open is closed, unless it is running
pub data ClosesEnded (old new : State) : Type 0 where
  StillRuns : (cursor : ℕ) → copy_state old.core ≡ copy.Running cursor → new ≡ old → ClosesEnded old new
  IsClosed : ((cursor : ℕ) → copy_state old.core ≡ copy.Running cursor → ⊥) → new ≡ state old.device (closed old.core) → ClosesEnded old new

-- The stale copies of the volume are brought up, with the patience of a command; and this is what was answered, and how many votes were there then.
pub record IsSynced (lv : ℕ) (old new : State) (synced : Synced) : Type 0 where
  pub left : ℕ
  pub gives : SyncGives (volume_fault old.core lv) (volume_copies old.core.descriptor lv) 1000000 left old new synced.result
  pub caused : IfErr synced.result (SyncCause left old new)
  pub beside : GoesBeside old new 1000000 left
  pub votes : (synced.have ≡ votes_there new.core) × (synced.total ≡ total_votes new.core.descriptor)

-- nothing was heard of a transfer meanwhile
abbrev pub is_unheard : Result ℕ SyncFault → Bool
is_unheard (Err fault.Stuck) = true
is_unheard result = false

-- turns are made until nothing may be made, unless nothing was heard
abbrev pub SettlesUnless : Bool → State → State → Bool → Type 0
SettlesUnless true old new waits = (new ≡ old) × (waits ≡ true)
SettlesUnless false old new waits = Settles old new waits

-- A copy that is open is closed, the stale ones of the volume are brought up, and turns are made; and this says whether nothing was heard.
pub record SyncsBehind (lv : ℕ) (old new : State) (synced : Synced) (waits : Bool) : Type 0 where
  pub shut : State
  pub closes : ClosesEnded old shut
  pub behind : State
  pub syncs : IsSynced lv shut behind synced
  pub settles : SettlesUnless (is_unheard synced.result) behind new waits

abbrev pub is_on : Power → Bool
is_on power.On = true
is_on _ = false

-- Copies are brought up behind the workers where that is asked for, something was heard so far, and the session is on.
abbrev pub EndsBehind : Bool → ℕ → State → Bool → State → Option Synced → Bool → Type 0
EndsBehind sync lv old waiting new (Some synced) waits = (sync && not waiting && is_on old.core.power ≡ true) × SyncsBehind lv old new synced waits
EndsBehind sync lv old waiting new None waits = (sync && not waiting && is_on old.core.power ≡ false) × (new ≡ old) × (waits ≡ waiting)
