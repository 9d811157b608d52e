-- The copies of a disk move to another one, one after the other, and what comes of it.
use Rattle.std.specs.Prelude.{◌≡◌, ◌≢◌, ◌⊎◌, ◌<◌, ◌≤◌, ◌-◌, ◌++◌, ℕ, true, false, List, [], ◌∷◌, length, Option, None, Some, IsSome, Result, Ok, Err, MatchOption, All, is_some, if◌then◌else◌}
use Rattle.std.specs.Option.{option_map, option_map_or}
use Rattle.lvm_disk.specs.Counts.{NoneFalls, Rose, RoseBy}
use Rattle.lvm_num.specs.declared.descriptor.Descriptor.{Descriptor}
use Rattle.lvm_num.specs.Descriptor.{is_member, volume_of}
use Rattle.lvm_num.specs.Votes.{total_votes}
use Rattle.lvm_session.specs.declared.open.Power.{Power}
use Rattle.lvm_session.specs.declared.open.Power.TheVariants as power
use Rattle.lvm_session.specs.Calls.{has_numbers}
use Rattle.lvm_session.specs.Judging.{is_missing, is_stale}
use Rattle.lvm_session.specs.State.{Core, State, votes_there}
use Rattle.lvm_going.specs.Going.{LeavesMoving}
use Rattle.lvm_move_plan.specs.declared.plan.PlannedMove.{PlannedMove}
use Rattle.lvm_move_plan.specs.Planned.{plan_refusal, planned_moves}
use Rattle.lvm_move_plan.specs.Standing.{standing_on}
use Rattle.lvm_move_plan.specs.Laws.{after_moves}
use Rattle.lvm_ranges.specs.Causes.{AnyFails}
use Rattle.lvm_ranges.specs.Keeping.{KeepsTable}
use Rattle.lvm_migrate.specs.declared.fault.MoveFault.{MoveFault}
use Rattle.lvm_migrate.specs.declared.fault.MoveFault.TheVariants as fault
use Rattle.lvm_migrate.specs.Faults.{plan_fault_is}
use Rattle.lvm_migrate.specs.Moving.{CommitGives, StopsAt}

-- what may be asked for: two members, and a volume that is there, or all
pub record MayMigrate (d : Descriptor) (lv : Option ℕ) (from to : ℕ) : Type 0 where
  pub first : is_member d from ≡ true
  pub second : is_member d to ≡ true
  pub differ : from ≢ to
  pub volume : (n : ℕ) → lv ≡ Some n → IsSome (volume_of d n)

-- ---- why none is begun

-- a copy is open, or the second disk is missing
abbrev pub busy_or_missing : Core → ℕ → Option MoveFault
busy_or_missing core to = if is_some core.copy then Some fault.Busy else if is_missing core to then Some (fault.Missing to) else None

-- so it is where the session may be over
abbrev pub refusal_by : Power → Core → Option MoveFault → Option MoveFault
refusal_by power.Dark core on = Some fault.Dark
refusal_by power.Off core on = Some (fault.WentOff (votes_there core) (total_votes core.descriptor))
refusal_by power.Stuck core on = on
refusal_by power.On core on = on

abbrev pub session_refusal : Core → ℕ → Option MoveFault
session_refusal core to = refusal_by core.power core (busy_or_missing core to)

-- the plan, and then the numbers that are left
abbrev pub further_refusal : Core → Option ℕ → ℕ → ℕ → Option MoveFault
further_refusal core lv from to = option_map_or (λ why. Some (plan_fault_is why)) (plan_refusal core.descriptor lv from to) (if has_numbers core then None else Some fault.HistoryFull)

-- what stands against it, the session first
abbrev pub migrate_refusal : Core → Option ℕ → ℕ → ℕ → Option MoveFault
migrate_refusal core lv from to = option_map_or (λ (why : MoveFault). Some why) (session_refusal core to) (further_refusal core lv from to)

-- The moves are planned where nothing does. Memory may be wanting once the session lets copies move.
pub data ArePlanned (core : Core) (lv : Option ℕ) (from to : ℕ) (answer : Result (List PlannedMove) MoveFault) : Type 0 where
  Plans : migrate_refusal core lv from to ≡ None → answer ≡ Ok (planned_moves core.descriptor lv from to) → ArePlanned core lv from to answer
  StandsAgainst : (why : MoveFault) → migrate_refusal core lv from to ≡ Some why → answer ≡ Err why → ArePlanned core lv from to answer
  WantsMemory : session_refusal core to ≡ None → answer ≡ Err fault.Memory → ArePlanned core lv from to answer

-- moves that are planned for some volumes and disks, against which nothing stands
pub record IsPlanOf (d : Descriptor) (moves : List PlannedMove) : Type 0 where
  pub lv : Option ℕ
  pub from : ℕ
  pub to : ℕ
  pub differ : from ≢ to
  pub fine : plan_refusal d lv from to ≡ None
  pub is : planned_moves d lv from to ≡ moves

-- ---- what is made of them

-- These have moved, in order, and the patience that is left.
pub data HaveMoved (first : State) (patience : ℕ) : List PlannedMove → State → ℕ → Type 0 where
  NoneMoved : HaveMoved first patience [] first patience
  OneMoved : {moves : List PlannedMove} {old new : State} {before left : ℕ} (m : PlannedMove) → HaveMoved first patience moves old before → CommitGives m before left old new (Ok tt)
      → HaveMoved first patience (moves ++ m ∷ []) new left

-- Those before one have moved, which is the last, and none behind it.
pub record StopsAmong (moves : List PlannedMove) (patience left : ℕ) (old new : State) (why : MoveFault) : Type 0 where
  pub moved : List PlannedMove
  pub one : PlannedMove
  pub rest : List PlannedMove
  pub all : moves ≡ moved ++ one ∷ rest
  pub mid : State
  pub before : ℕ
  pub have : HaveMoved old patience moved mid before
  pub stops : StopsAt one before left mid new why

-- all of them have moved, of which there are so many, or one is the last
abbrev pub MovesAll : List PlannedMove → ℕ → ℕ → State → State → Result ℕ MoveFault → Type 0
MovesAll moves patience left old new (Ok moved) = HaveMoved old patience moves new left × (moved ≡ length moves)
MovesAll moves patience left old new (Err why) = StopsAmong moves patience left old new why

-- nothing changes
abbrev pub Refuses : ℕ → ℕ → State → State → Result ℕ MoveFault → MoveFault → Type 0
Refuses patience left old new answer why = (answer ≡ Err why) × (new ≡ old) × (left ≡ patience)

-- Where something stands against it none is begun. None is either where memory for the plan is wanting, once the session lets copies move.
pub data MigrateGives (lv : Option ℕ) (from to patience left : ℕ) (old new : State) (answer : Result ℕ MoveFault) : Type 0 where
  Migrates : migrate_refusal old.core lv from to ≡ None → MovesAll (planned_moves old.core.descriptor lv from to) patience left old new answer → MigrateGives lv from to patience left old new answer
  IsRefused : (why : MoveFault) → migrate_refusal old.core lv from to ≡ Some why → Refuses patience left old new answer why → MigrateGives lv from to patience left old new answer
  LacksMemory : session_refusal old.core to ≡ None → Refuses patience left old new answer fault.Memory → MigrateGives lv from to patience left old new answer

-- ---- what it leaves

-- those that have moved, in order, and no others, stand on their new partitions
pub record SomeStandMoved (moves : List PlannedMove) (d new : Descriptor) : Type 0 where
  pub moved : List PlannedMove
  pub rest : List PlannedMove
  pub all : moves ≡ moved ++ rest
  pub is : new ≡ after_moves d moved

-- all of them do, or those before the one at which it ended
abbrev pub StandMoved : List PlannedMove → Descriptor → Descriptor → Result ℕ MoveFault → Type 0
StandMoved moves d new (Ok moved) = new ≡ after_moves d moves
StandMoved moves d new (Err why) = SomeStandMoved moves d new

-- where all have moved no copy that is asked for stands on the first disk
abbrev pub IsLeftEmpty : Option ℕ → ℕ → Descriptor → Type 0
IsLeftEmpty lv from d = standing_on d lv from ≡ []

-- No copy is left open where the session goes on, unless nothing was heard of a transfer. Where all have moved it goes on.
abbrev pub IsLeftShut : {A : Type 0} → Core → Result A MoveFault → Type 0
IsLeftShut core (Ok moved) = (core.power ≡ power.On) × (core.copy ≡ None)
IsLeftShut core (Err fault.Stuck) = Unit {0}
IsLeftShut core (Err why) = (core.power ≡ power.On → core.copy ≡ None) × (core.power ≡ power.Stuck → ⊥)

-- a copy that has moved is stale only where a transfer of its disk has failed meanwhile
abbrev pub AreFreshBut : List PlannedMove → State → State → Type 0
AreFreshBut moves old new = All (λ (m : PlannedMove). is_stale new.core m.to ≡ true → Rose (old.device.counts.faults m.to.disk) (new.device.counts.faults m.to.disk)) moves

-- The power was cut; the votes are lost; all of the patience was waited in vain; the numbers of stamps are short; the second disk is missing; or a transfer has failed. For the
-- others nothing has to have happened.
abbrev pub MoveCause : ℕ → State → State → MoveFault → Type 0
MoveCause patience old new fault.Dark = new.core.power ≡ power.Dark
MoveCause patience old new (fault.WentOff have total) = (new.core.power ≡ power.Off) × (have ≡ votes_there new.core) × (total ≡ total_votes new.core.descriptor)
MoveCause patience old new fault.Stuck = RoseBy patience old.device.counts.waits new.device.counts.waits
MoveCause patience old new fault.HistoryFull = has_numbers new.core ≡ false
MoveCause patience old new (fault.Missing disk) = is_missing new.core disk ≡ true
MoveCause patience old new (fault.SyncFailed disk) = AnyFails old new
MoveCause patience old new other = Unit {0}

-- The session goes on by turns, by copies that begin to move, and by commits of moves, with its requests in the table; no order is given; the patience that is gone went with
-- waits.
pub record GoesBesideMoving (old new : State) (before after : ℕ) : Type 0 where
  pub leaves : LeavesMoving old new
  pub table : KeepsTable old.core new.core
  pub orders : new.device.orders ≡ old.device.orders
  pub counts : NoneFalls old.device.counts new.device.counts
  pub fewer : after ≤ before
  pub waited : RoseBy (before - after) old.device.counts.waits new.device.counts.waits
