-- What turns leave that are made while copies are brought up, and how such a turn ends.
use Rattle.std.specs.Prelude.{◌≡◌, ◌⊎◌, ◌≤◌, ◌<◌, ◌+◌, ◌-◌, ℕ, false, None, Result, Ok, Err}
use Rattle.lvm_disk.specs.Counts.{RoseBy}
use Rattle.lvm_session.specs.declared.open.Power.TheVariants as power
use Rattle.lvm_session.specs.Calls.{has_numbers}
use Rattle.lvm_session.specs.Left.{left_of}
use Rattle.lvm_session.specs.State.{Core, State}
use Rattle.lvm_ranges.specs.passed.Going.{LeavesSession}
use Rattle.lvm_ranges.specs.passed.KeepsEvents.{LosesByFaults}
use Rattle.lvm_ranges.specs.passed.Driver.{IsDrained}
use Rattle.lvm_session.specs.declared.answers.Turned.TheVariants as turned
use Rattle.lvm_session.specs.Turns.{Finds, TurnMakes}
use Rattle.lvm_ranges.specs.Keeping.{KeepsTable}
use Rattle.lvm_ranges.specs.declared.fault.SyncFault.{SyncFault}
use Rattle.lvm_ranges.specs.declared.fault.SyncFault.TheVariants as fault

-- The session goes on, with its requests in the table; no order is given; disks come to be missing by faults alone; and the patience that is gone went with answers
-- that nothing has ended.
pub record GoesBeside (old new : State) (before after : ℕ) : Type 0 where
  pub leaves : LeavesSession old new
  pub table : KeepsTable old.core new.core
  pub orders : new.device.orders ≡ old.device.orders
  pub loses : LosesByFaults old new
  pub fewer : after ≤ before
  pub waited : RoseBy (before - after) old.device.counts.waits new.device.counts.waits

-- some event may be made, or some transfer is out
abbrev pub IsUnderWay : State → Type 0
IsUnderWay s = IsDrained s → ⊥

-- the session is over, or so much patience is too little
abbrev pub IsOverFor : ℕ → Core → SyncFault → Type 0
IsOverFor left core fault.Dark = core.power ≡ power.Dark
IsOverFor left core fault.Off = core.power ≡ power.Off
IsOverFor left core fault.Stuck = left ≡ 0
IsOverFor left core _ = ⊥

-- why a resync ends at once, with so much patience left; a copy is open then only where the session is over or stuck
abbrev pub StopsFor : ℕ → Core → SyncFault → Type 0
StopsFor left core fault.HistoryFull = (has_numbers core ≡ false) × (core.copy ≡ None)
StopsFor left core why = IsOverFor left core why

-- A turn has moved, which costs nothing, or has found that none of the transfers that are out has ended, which costs one of the patience.
abbrev pub MakesTurn : State → State → ℕ → ℕ → Type 0
MakesTurn old new before after = ((1 ≤ before) × (after ≡ before) × TurnMakes old new turned.Moved) ⊎ ((before ≡ after + 1) × TurnMakes old new turned.Idle × Finds old new)

-- The last turn finds the session over; or none is made, since the patience has run out.
abbrev pub MakesLast : State → State → ℕ → ℕ → SyncFault → Type 0
MakesLast old new before after fault.Dark = (1 ≤ before) × (after ≡ before) × TurnMakes old new turned.Dark
MakesLast old new before after fault.Off = (1 ≤ before) × (after ≡ before) × TurnMakes old new turned.Off
MakesLast old new before after other = (after ≡ before) × (new ≡ old)

-- A turn was made, behind which the session goes on, and less is left of work and patience together; or the session or the patience is at its end.
abbrev pub TurnEnds : State → State → ℕ → ℕ → Result (Unit {0}) SyncFault → Type 0
TurnEnds old new before after (Ok done) = MakesTurn old new before after × (new.core.power ≡ power.On) × (left_of new.core + after < left_of old.core + before)
TurnEnds old new before after (Err why) = IsOverFor after new.core why × MakesLast old new before after why
