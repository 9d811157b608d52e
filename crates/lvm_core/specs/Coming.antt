-- What is left where a group was to come on.
use Rattle.std.specs.Prelude.{ℕ, ◌+◌, List, Result, Ok, Err}
use Rattle.lvm_disk.specs.Device.{Device}
use Rattle.lvm_vol.specs.Facts.{Fact}
use Rattle.lvm_vol.specs.Log.{Log}
use Rattle.lvm_kept.specs.Moments.{StaysCalm}
use Rattle.lvm_commit.specs.passed.Steps.{ImagesKept, Keeps, at, ClockIsAhead, StampsAreEarlier}
use Rattle.lvm_write.specs.Parts.{Spends}
use Rattle.lvm_commit.specs.Settling.{NoneIsLeft}
use Rattle.lvm_core.specs.declared.refused.Refused.{Refused}
use Rattle.lvm_session.specs.State.{Core, State}
use Rattle.lvm_core.specs.Held.{StartsHeld}
use Rattle.lvm_core.specs.Settled.{IsSettled, HasSpareNumbers}

-- ---- the shelf and the history, by the answer

abbrev pub shelf_left : {S : Type 0} → Result (S × Core) (Refused S) → S
shelf_left (Ok driver) = driver.0
shelf_left (Err refused) = refused.shelf

abbrev pub history_left : {S : Type 0} → Result (S × Core) (Refused S) → Log
history_left (Ok driver) = driver.1.history
history_left (Err refused) = refused.history

-- ---- whatever the answer

-- Where the clock is ahead at the beginning, the history is legal at each moment of the call and each crash image is kept with it, and the disks stay behind
-- the clock. No write is open that wasn't, and the patience falls by what is waited.
pub record BringsOn (run moment before after : ℕ) (old new : Device) (was is : Log) : Type 0 where
  pub keeps : ClockIsAhead run moment old was.facts → Keeps run (at old was.facts) (at new is.facts)
  pub behind : ClockIsAhead run moment old was.facts → StampsAreEarlier (moment + 1) new
  pub calm : StaysCalm (at old was.facts) (at new is.facts)
  pub spends : Spends before after old new

-- ---- where it is on

-- The session that begins is settled, with numbers enough for its records, and leaves no copy behind; where the clock is ahead and the disks kept some history
-- before, they hold what it says.
pub record IsStarted (run moment : ℕ) (old : Device) (was : Log) (new : State) : Type 0 where
  pub settled : IsSettled new.core
  pub numbers : HasSpareNumbers new.core
  pub left : NoneIsLeft new.core.descriptor new.core.status
  pub held : (facts : List Fact) → ClockIsAhead run moment old was.facts → ImagesKept old facts → StartsHeld new.device new.core
