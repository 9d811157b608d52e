-- A turn: the first event that may be made, else the end of a transfer, else the end of the session.
use Rattle.std.specs.Prelude.{◌≡◌, ◌⊎◌, ◌+◌, ◌<◌, ℕ, Bool, true, false, [], Some, None, length}
use Rattle.lvm_kept.specs.passed.Disk.{Arrange, ArrangeGives, GoesDark, Waits}
use Rattle.lvm_status.specs.Update.{Stored}
use Rattle.lvm_mwc.specs.Cache.{has_disk}
use Rattle.lvm_session.specs.declared.open.Power.TheVariants as power
use Rattle.lvm_session.specs.declared.answers.Turned.{Turned}
use Rattle.lvm_session.specs.declared.answers.Turned.TheVariants as turned
use Rattle.lvm_session.specs.State.{State, state}
use Rattle.lvm_session.specs.Dark.{after_arrange, all_dark, all_off}
use Rattle.lvm_session.specs.declared.event.Event.{Event}
use Rattle.lvm_session.specs.declared.event.Event.TheVariants as event
use Rattle.lvm_session.specs.Enabled.{first_event, is_lost}
use Rattle.lvm_session.specs.Events.{Lands, Admits, Pins, StartsStatus, StartsNote, StartsData, ReadsCopy, WritesCopy}
use Rattle.lvm_session.specs.Ends.{Ends}

-- What each event makes.
abbrev pub Makes : Event → State → State → Type 0
Makes (event.Land place how) old new = Lands old new place how
Makes (event.Admit place) old new = Admits old new place
Makes (event.Pin place) old new = Pins old new place
Makes event.StartStatus old new = StartsStatus old new
Makes (event.StartNote place disk) old new = StartsNote old new place disk
Makes (event.StartData place target) old new = StartsData old new place target
Makes event.ReadCopy old new = ReadsCopy old new
Makes event.WriteCopy old new = WritesCopy old new

-- it starts a transfer
abbrev pub is_start : Event → Bool
is_start (event.Land place how) = false
is_start (event.Admit place) = false
is_start (event.Pin place) = false
is_start event.StartStatus = true
is_start (event.StartNote place disk) = true
is_start (event.StartData place target) = true
is_start event.ReadCopy = true
is_start event.WriteCopy = true

-- the same is committed and wanted, and in flight too, unless a start to which the power didn't last put in flight what is wanted, under the next stamp
pub record SaysTheSame (old new : Stored) : Type 0 where
  pub group : new.group ≡ old.group
  pub committed : new.committed ≡ old.committed
  pub wanted : new.wanted ≡ old.wanted
  pub in_flight : (new.in_flight ≡ old.in_flight) ⊎ ((old.in_flight ≡ None) × (new.in_flight ≡ Some old.wanted))
  pub stamp : (new.stamp ≡ old.stamp) ⊎ ((old.in_flight ≡ None) × (new.stamp ≡ record old.stamp { seq = old.stamp.seq + 1 }))

-- The power is found off, or cut: the session is over.
pub record Darkens (old new : State) : Type 0 where
  pub device : GoesDark old.device new.device
  pub power : new.device.power ≡ false
  pub status : SaysTheSame old.core.status new.core.status
  pub entries : new.core.cache.entries ≡ old.core.cache.entries
  pub notes : (disk : ℕ) → has_disk new.core.cache disk ≡ has_disk old.core.cache disk
  pub is : new.core ≡ all_dark (record old.core { status = new.core.status; cache = new.core.cache })

-- The votes are lost and nothing is out: the session is over.
pub record GoesOff (old new : State) : Type 0 where
  pub lost : is_lost old.core ≡ true
  pub idle : old.device.flights ≡ []
  pub is : new ≡ state old.device (all_off old.core)

-- A client gives an order to the shelf; a power cut ends the session.
pub record ArrangesSession (old new : State) (what : Arrange) (done : Bool) : Type 0 where
  pub device : ArrangeGives old.device new.device what done
  pub is : new.core ≡ after_arrange what done old.core

-- nothing is out, and the votes aren't lost
pub record FindsNothing (old new : State) : Type 0 where
  pub votes : is_lost old.core ≡ false
  pub idle : old.device.flights ≡ []
  pub is : new ≡ old

-- none of the transfers that are out has ended
pub record Finds (old new : State) : Type 0 where
  pub waits : Waits old.device new.device
  pub is : new.core ≡ old.core

-- what a turn makes that finds no event, and its answer: a transfer ends; nothing does; the power is off by the end of one that was out; or the session is over
abbrev pub FinishMakes : State → State → Turned → Type 0
FinishMakes old new turned.Moved = (at : ℕ) × Ends old new at
FinishMakes old new turned.Idle = Finds old new ⊎ FindsNothing old new
FinishMakes old new turned.Dark = (0 < length old.device.flights) × Darkens old new
FinishMakes old new turned.Off = GoesOff old new

-- What a turn of a session that is on makes, and its answer: the first event that may be made, unless the power is found off; and where there is none,
-- what ends.
pub data OnMakes (old new : State) (answer : Turned) : Type 0 where
  Moves : (it : Event) → first_event old.core ≡ Some it → Makes it old new → answer ≡ turned.Moved → OnMakes old new answer
  NoStart : (it : Event) → first_event old.core ≡ Some it → is_start it ≡ true → Darkens old new → answer ≡ turned.Dark → OnMakes old new answer
  Finishes : first_event old.core ≡ None → FinishMakes old new answer → OnMakes old new answer

-- What a turn makes of a session to which nothing is out that nobody owns.
pub data TurnMakes (old new : State) (answer : Turned) : Type 0 where
  WasDark : old.core.power ≡ power.Dark → answer ≡ turned.Dark → new ≡ old → TurnMakes old new answer
  WasOff : old.core.power ≡ power.Off → answer ≡ turned.Off → new ≡ old → TurnMakes old new answer
  WasOn : old.core.power ≡ power.On → OnMakes old new answer → TurnMakes old new answer
