-- Why a volume gets no more copies, or keeps all that it has.
use Rattle.std.specs.Prelude.{◌≡◌, ℕ, ◌<◌, ◌≤◌, ◌&&◌, not, Bool, List, take, drop, None, Some, IsTrue, IsFalse}
use Rattle.std.specs.List.{list_any}
use Rattle.lvm_num.specs.declared.place.Pp.{Pp}
use Rattle.lvm_num.specs.declared.descriptor.LvRow.{LvRow}
use Rattle.lvm_num.specs.declared.status.Status.{Status}
use Rattle.lvm_num.specs.Descriptor.{copies_of, volume_of}
use Rattle.lvm_num.specs.Status.{calls_stale, calls_missing}
use Rattle.lvm_map.specs.FirstFit.{IsAllocated, HasNoPlace, free_count, more_copies}
use Rattle.lvm_session.specs.State.{Core, is_there}
use Rattle.lvm_volume_plan.specs.declared.fault.GroupFault.{GroupFault}
use Rattle.lvm_volume_plan.specs.declared.fault.GroupFault.TheVariants as fault
use Rattle.lvm_volume_plan.specs.Faults.{TakesCommands, HasSpareRoom, RefusesAll}

-- The session takes a command, and this is the volume of the number;
pub record HasVolume (lv : ℕ) (core : Core) (row : LvRow) : Type 0 where
  pub takes : TakesCommands core
  pub volume : volume_of core.descriptor lv ≡ Some row

-- ---- more copies

-- a volume may have so many copies, which are more than this one has;
pub record AreMore (row : LvRow) (copies : ℕ) : Type 0 where
  pub more : row.copies < copies
  pub most : copies ≤ 3

pub record MayGrow (lv copies : ℕ) (core : Core) (row : LvRow) : Type 0 where
  pub found : HasVolume lv core row
  pub are : AreMore row copies

-- first fit finds places for the further ones on the members that aren't missing;
pub record HasFurtherPlaces (lv copies : ℕ) (core : Core) (row : LvRow) (pps : List Pp) : Type 0 where
  pub grows : MayGrow lv copies core row
  pub placed : IsAllocated core.descriptor (is_there core) (more_copies row copies) pps

-- and there is room among the entries and the numbers.
pub record MayBeAdded (lv copies : ℕ) (core : Core) (row : LvRow) (pps : List Pp) : Type 0 where
  pub places : HasFurtherPlaces lv copies core row pps
  pub room : HasSpareRoom core

-- why no copies are added, each cause exactly where it holds and those before it don't; want of memory, which is free, only where none holds that comes before places are looked for
abbrev pub RefusesMklvcopy : ℕ → ℕ → Core → GroupFault → Type 0
RefusesMklvcopy lv copies core fault.NoVolume = TakesCommands core × (volume_of core.descriptor lv ≡ None)
RefusesMklvcopy lv copies core (fault.CopyLimit now) = (row : LvRow) × HasVolume lv core row × (AreMore row copies → ⊥) × (now ≡ row.copies)
RefusesMklvcopy lv copies core (fault.NoRoom free) = (row : LvRow) × MayGrow lv copies core row × HasNoPlace core.descriptor (is_there core) (more_copies row copies) × (free ≡ free_count core.descriptor (is_there core))
RefusesMklvcopy lv copies core fault.HistoryFull = ((row : LvRow) × ((pps : List Pp) × HasFurtherPlaces lv copies core row pps)) × (HasSpareRoom core → ⊥)
RefusesMklvcopy lv copies core fault.Memory = (row : LvRow) × MayGrow lv copies core row
RefusesMklvcopy lv copies core fault.Dark = RefusesAll core fault.Dark
RefusesMklvcopy lv copies core (fault.WentOff have total) = RefusesAll core (fault.WentOff have total)
RefusesMklvcopy lv copies core fault.Busy = RefusesAll core fault.Busy
RefusesMklvcopy lv copies core fault.VolumeExists = ⊥
RefusesMklvcopy lv copies core (fault.StaleCopy lp) = ⊥
RefusesMklvcopy lv copies core (fault.LastFresh lp) = ⊥
RefusesMklvcopy lv copies core (fault.TooMany limit) = ⊥
RefusesMklvcopy lv copies core (fault.DiskFailed disk) = ⊥
RefusesMklvcopy lv copies core fault.Stuck = ⊥

-- ---- fewer copies

-- a volume may have so many copies, which are fewer than this one has;
pub record AreFewer (row : LvRow) (copies : ℕ) : Type 0 where
  pub some : 1 ≤ copies
  pub fewer : copies < row.copies

pub record MayShrink (lv copies : ℕ) (core : Core) (row : LvRow) : Type 0 where
  pub found : HasVolume lv core row
  pub are : AreFewer row copies

-- whether the status calls one of these copies fresh, and whether it calls one fresh whose disk it doesn't call missing, which can be used
abbrev pub has_fresh : Status → List Pp → Bool
has_fresh s copies = list_any (λ p. not (calls_stale s p)) copies

abbrev pub has_usable : Status → List Pp → Bool
has_usable s copies = list_any (λ p. not (calls_stale s p) && not (calls_missing s p.disk)) copies

-- whether with its copies behind the first ones a logical partition loses a fresh one, and keeps none that can be used
abbrev pub is_loss : Status → LvRow → ℕ → ℕ → Bool
is_loss s row copies lp = has_fresh s (drop copies (copies_of row lp)) && not (has_usable s (take copies (copies_of row lp)))

-- the first logical partition of which that is so
pub record IsFirstLoss (s : Status) (row : LvRow) (copies lp : ℕ) : Type 0 where
  pub inside : lp < row.lps
  pub lost : IsTrue (is_loss s row copies lp)
  pub lower : (n : ℕ) → n < lp → IsFalse (is_loss s row copies n)

-- it is so of none;
pub record LosesNone (lv copies : ℕ) (core : Core) (row : LvRow) : Type 0 where
  pub shrinks : MayShrink lv copies core row
  pub each : (lp : ℕ) → lp < row.lps → IsFalse (is_loss core.status.committed row copies lp)

-- and there is room among the entries and the numbers.
pub record MayBeTaken (lv copies : ℕ) (core : Core) (row : LvRow) : Type 0 where
  pub keeps : LosesNone lv copies core row
  pub room : HasSpareRoom core

-- why none are removed; want of memory, which is free, only where nothing else stands against it
abbrev pub RefusesRmlvcopy : ℕ → ℕ → Core → GroupFault → Type 0
RefusesRmlvcopy lv copies core fault.NoVolume = TakesCommands core × (volume_of core.descriptor lv ≡ None)
RefusesRmlvcopy lv copies core (fault.CopyLimit now) = (row : LvRow) × HasVolume lv core row × (AreFewer row copies → ⊥) × (now ≡ row.copies)
RefusesRmlvcopy lv copies core (fault.StaleCopy lp) = ⊥
RefusesRmlvcopy lv copies core (fault.LastFresh lp) = (row : LvRow) × MayShrink lv copies core row × IsFirstLoss core.status.committed row copies lp
RefusesRmlvcopy lv copies core fault.HistoryFull = ((row : LvRow) × LosesNone lv copies core row) × (HasSpareRoom core → ⊥)
RefusesRmlvcopy lv copies core fault.Memory = (row : LvRow) × MayBeTaken lv copies core row
RefusesRmlvcopy lv copies core fault.Dark = RefusesAll core fault.Dark
RefusesRmlvcopy lv copies core (fault.WentOff have total) = RefusesAll core (fault.WentOff have total)
RefusesRmlvcopy lv copies core fault.Busy = RefusesAll core fault.Busy
RefusesRmlvcopy lv copies core fault.VolumeExists = ⊥
RefusesRmlvcopy lv copies core (fault.TooMany limit) = ⊥
RefusesRmlvcopy lv copies core (fault.NoRoom free) = ⊥
RefusesRmlvcopy lv copies core (fault.DiskFailed disk) = ⊥
RefusesRmlvcopy lv copies core fault.Stuck = ⊥
