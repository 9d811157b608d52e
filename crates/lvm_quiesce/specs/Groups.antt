-- What the making and the varying on of a group do where transfers of before may be out.
use Rattle.std.specs.Prelude.{◌≡◌, ◌⊎◌, ◌+◌, ◌≤◌, ℕ, List, Result, Ok, Err}
use Rattle.lvm_disk.specs.Counts.{Rose, RoseBy, Counts}
use Rattle.lvm_disk.specs.Device.{Device}
use Rattle.lvm_vol.specs.Facts.{Fact}
use Rattle.lvm_vol.specs.Log.{Log, spare_entries, cut_log}
use Rattle.lvm_kept.specs.Moments.{StaysCalm}
use Rattle.lvm_steps.specs.Moments.{ImagesKept, Keeps}
use Rattle.lvm_steps.specs.Requests.{at}
use Rattle.lvm_steps.specs.Behind.{StampsAreEarlier}
use Rattle.lvm_write.specs.Parts.{Spends}
use Rattle.lvm_core.specs.passed.Commit.{NoneIsLeft}
use Rattle.lvm_core.specs.passed.SessionStart.{AreFaults}
use Rattle.lvm_session.specs.State.{Core, State}
use Rattle.lvm_core.specs.declared.parts.Room.{Room}
use Rattle.lvm_core.specs.declared.refused.Cause.{Cause}
use Rattle.lvm_core.specs.declared.refused.Cause.TheVariants as cause
use Rattle.lvm_core.specs.declared.refused.Refused.{Refused}
use Rattle.lvm_core.specs.Held.{StartsHeld}
use Rattle.lvm_core.specs.Settled.{IsSettled, HasSpareNumbers}
use Rattle.lvm_group.specs.NewGroup.{NewGroup, MayMakeGroup, RefusesFirst}
use Rattle.lvm_group.specs.Made.{MkvgGives}
pub use Rattle.lvm_varyon.specs.Varied.{VariesOnAt}
use Rattle.lvm_quiesce.specs.Behind.{ClockIsAheadEach}
use Rattle.lvm_quiesce.specs.Ends.{Quiesces, IsCutEnding, IsStuckEnding}
use Rattle.lvm_quiesce.specs.Quiet.{OnceQuiet}

-- ---- the transfers that were out

-- Those that were out haven't all ended: the power was cut, and is off, which is entered where it ends something; or nothing was heard of them.
abbrev pub StaysOut : ℕ → Device → Device → Log → Log → Cause → Type 0
StaysOut patience old new was is cause.Dark = IsCutEnding old new × (is ≡ cut_log was)
StaysOut patience old new was is cause.Stuck = IsStuckEnding patience old new × (is ≡ was)
StaysOut patience old new was is other = ⊥

-- how they ended, with the shelf and the history that are handed back
abbrev pub RestGives : {S : Type 0} → (S → Device) → ℕ → ℕ → S → Log → Result (S × Log) (Refused S) → Type 0
RestGives device before after shelf was (Ok at_rest) = Quiesces (device shelf) (device at_rest.0) × Spends before after (device shelf) (device at_rest.0) × (at_rest.1 ≡ was)
RestGives device before after shelf was (Err refused) = StaysOut before (device shelf) (device refused.shelf) was refused.history refused.cause × Spends before after (device shelf) (device refused.shelf)

-- ---- a command by which a group comes on or doesn't

-- It is refused for one of the causes that come first, and nothing changes; or nothing is against it so far, and of the transfers that were out not all end,
-- or they do, and it goes on from there.
pub data GivesOnceQuiet {S : Type 0} (device : S → Device) (First : Cause → Type 0) (May : Type 0) (Goes : ℕ → Device → Result (S × Core) (Refused S) → Type 0) (patience : ℕ) (was : Log) (old : Device) (outcome : Result (S × Core) (Refused S)) : Type 0 where
  RefusedAtOnce : (refused : Refused S) → outcome ≡ Err refused → First refused.cause → device refused.shelf ≡ old → refused.history ≡ was → GivesOnceQuiet device First May Goes patience was old outcome
  StayedOut : (refused : Refused S) → outcome ≡ Err refused → May → StaysOut patience old (device refused.shelf) was refused.history refused.cause → GivesOnceQuiet device First May Goes patience was old outcome
  WentQuiet : May → OnceQuiet patience old (λ left mid. Goes left mid outcome) → GivesOnceQuiet device First May Goes patience was old outcome

-- `mkvg`, of which what is judged before any disk is read is judged first
abbrev pub MkvgOnceQuiet : {S : Type 0} → (S → Device) → NewGroup → Room → ℕ → Log → Device → Result (S × Core) (Refused S) → Type 0
MkvgOnceQuiet device w room patience was old outcome =
    GivesOnceQuiet device (RefusesFirst old.sizes (spare_entries was) w.disks w.mib) (MayMakeGroup old.sizes (spare_entries was) w.disks w.mib)
    (λ left mid outcome. MkvgGives device w room left was mid outcome) patience was old outcome

-- the history has no room for an entry
abbrev pub IsFullFor : Log → Cause → Type 0
IsFullFor log why = (why ≡ cause.HistoryFull) × (spare_entries log ≡ 0)

-- `varyonvg`, of which want of an entry is judged first
abbrev pub VaryonOnceQuiet : {S : Type 0} → (S → Device) → Log → List ℕ → ℕ → Room → ℕ → Device → Result (S × Core) (Refused S) → Type 0
VaryonOnceQuiet device was name moment room patience old outcome =
    GivesOnceQuiet device (IsFullFor was) (1 ≤ spare_entries was) (λ left mid outcome. VariesOnAt device was name moment room left mid outcome) patience was old outcome

-- ---- whatever the answer

-- Where the clock is ahead of each crash image at the beginning, the history is legal at each moment of the call and each crash image is kept with it, and the
-- disks stay behind the clock. No write is open that wasn't, and the patience falls by what is waited.
pub record BringsOnEach (run moment before after : ℕ) (old new : Device) (was is : Log) : Type 0 where
  pub keeps : ClockIsAheadEach run moment old was.facts → Keeps run (at old was.facts) (at new is.facts)
  pub behind : ClockIsAheadEach run moment old was.facts → StampsAreEarlier (moment + 1) new
  pub calm : StaysCalm (at old was.facts) (at new is.facts)
  pub spends : Spends before after old new

-- The session that begins is settled, with numbers enough for its records, leaves no copy behind and counts faults from those that there are; where the clock
-- is ahead of each crash image and these kept some history before, its disks hold what it says.
pub record IsStartedEach (run moment : ℕ) (old : Device) (was : Log) (new : State) : Type 0 where
  pub settled : IsSettled new.core
  pub numbers : HasSpareNumbers new.core
  pub left : NoneIsLeft new.core.descriptor new.core.status
  pub faults : AreFaults new.device new.core.origin.faults
  pub held : (facts : List Fact) → ClockIsAheadEach run moment old was.facts → ImagesKept old facts → StartsHeld new.device new.core

-- what has risen where no group comes on for this
abbrev pub CauseRose : ℕ → Counts → Counts → Cause → Type 0
CauseRose patience old new cause.Dark = Rose old.cuts new.cuts
CauseRose patience old new cause.Stuck = RoseBy patience old.waits new.waits
CauseRose patience old new (cause.DiskFailed disk) = Rose (old.misses disk) (new.misses disk) ⊎ Rose (old.faults disk) (new.faults disk)
CauseRose patience old new other = Unit {0}
