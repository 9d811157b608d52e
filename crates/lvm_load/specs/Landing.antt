-- How requests land where nothing fails.
use Rattle.std.specs.Prelude.{◌≡◌, ◌++◌, ℕ, true, false, List, length}
use Rattle.std.specs.List.{AllByRecursion, list_any}
use Rattle.lvm_vol.specs.declared.entry.Outcome.{Outcome}
use Rattle.lvm_vol.specs.declared.entry.Outcome.TheVariants as outcome
use Rattle.lvm_vol.specs.declared.entry.Vol.TheVariants.{Lv}
use Rattle.lvm_vol.specs.Facts.{Fact, Landed, Request}
use Rattle.lvm_path.specs.declared.ask.Ask.{Ask}
use Rattle.lvm_path.specs.Asks.{at_of, count_of, lv_of}
use Rattle.lvm_session.specs.declared.open.Power.TheVariants as power
use Rattle.lvm_session.specs.Causes.{AnyFailedSince, was_usable}
use Rattle.lvm_session.specs.Judging.{IsWithinVolume, copies_for}
use Rattle.lvm_session.specs.Sound.{IsSound}
use Rattle.lvm_session.specs.State.{Core, State}
use Rattle.lvm_driver.specs.passed.Going.{LeavesSession}
use Rattle.lvm_load.specs.declared.totals.Totals.{Totals}
use Rattle.lvm_load.specs.Totals.{entries_since, totals_of}

-- the request goes over blocks of a volume of which no copy could be used when the session began
pub record LackedCopy (core : Core) (r : Request) : Type 0 where
  pub ask : Ask
  pub vol : r.vol ≡ Lv (lv_of ask)
  pub at : r.at ≡ at_of ask
  pub count : r.count ≡ count_of ask
  pub within : IsWithinVolume core.descriptor ask
  pub none : list_any (was_usable core) (copies_for core ask) ≡ false

-- it has landed as done or got, or for want of such a copy
abbrev pub LandsWell : Core → Request → Outcome → Type 0
LandsWell core r outcome.Done = Unit {0}
LandsWell core r outcome.Got = Unit {0}
LandsWell core r outcome.NoFresh = LackedCopy core r
LandsWell core r outcome.Lost = ⊥
LandsWell core r outcome.ReadFailed = ⊥
LandsWell core r outcome.Off = ⊥
LandsWell core r outcome.Dark = ⊥

-- so it has, if a request has landed by this
abbrev pub IsEnteredWell : Core → Fact → Type 0
IsEnteredWell core (Landed r how started got) = LandsWell core r how
IsEnteredWell core other = Unit {0}

-- The history goes on from the one to the other, and each request that has landed since has landed so, by how the session began.
pub record EntersWell (core : Core) (old new : List Fact) : Type 0 where
  pub since : List Fact
  pub is : new ≡ old ++ since
  pub well : AllByRecursion (IsEnteredWell core) since

-- some copy of each logical partition could be used when the session began
abbrev pub HadCopies : Core → Type 0
HadCopies core = (ask : Ask) → IsWithinVolume core.descriptor ask → list_any (was_usable core) (copies_for core ask) ≡ true

-- none of them has landed as lost; and none was refused, where there was a copy for each
abbrev pub AreWell : Core → Totals → Type 0
AreWell core totals = (totals.lost ≡ 0) × (HadCopies core → totals.refused ≡ 0)

-- ---- laws

-- While no transfer has failed since a session began, nor the power was cut, each request of it lands so; its votes aren't lost then either.
abbrev pub RequestsLandWell : Type 0
RequestsLandWell = (first last : State) → IsSound first → LeavesSession first last → (AnyFailedSince last → ⊥) → (last.core.power ≡ power.Dark → ⊥)
    → EntersWell first.core first.core.history.facts last.core.history.facts

-- So do those of a workload, by its totals.
abbrev pub TotalsAreWell : Type 0
TotalsAreWell = (requests : ℕ) (core : Core) (old new : List Fact) → EntersWell core old new → AreWell core (totals_of requests (entries_since (length old) new))

-- There is such a session, and each of its logical partitions had a copy.
abbrev pub MayLandWell : Type 0
MayLandWell = (first : State) × (last : State) × IsSound first × LeavesSession first last × (AnyFailedSince last → ⊥) × (last.core.power ≡ power.Dark → ⊥) × HadCopies first.core
