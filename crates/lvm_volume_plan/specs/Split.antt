-- A volume of which the copies behind the first ones become a volume of their own: the rows of both, and why it isn't split.
use Rattle.std.specs.Prelude.{◌≡◌, ℕ, ◌-◌, ◌<◌, ◌≤◌, ◌||◌, Bool, List, length, drop, None, IsTrue, IsFalse}
use Rattle.std.specs.List.{list_any}
use Rattle.lvm_num.specs.declared.place.Pp.{Pp}
use Rattle.lvm_num.specs.declared.descriptor.LvRow.{LvRow}
use Rattle.lvm_num.specs.declared.descriptor.Descriptor.{Descriptor}
use Rattle.lvm_num.specs.declared.status.Status.{Status}
use Rattle.lvm_num.specs.Descriptor.{copies_of, volume_of, most_volumes}
use Rattle.lvm_num.specs.Status.{calls_stale, calls_missing}
use Rattle.lvm_core.specs.Looking.{IsNumberOf, HasNoVolumeNamed}
use Rattle.lvm_session.specs.State.{Core}
use Rattle.lvm_volume_plan.specs.declared.fault.GroupFault.{GroupFault}
use Rattle.lvm_volume_plan.specs.declared.fault.GroupFault.TheVariants as fault
use Rattle.lvm_volume_plan.specs.Copies.{with_map, with_copies, first_copies, further_copies}
use Rattle.lvm_volume_plan.specs.NewVolume.{with_volume}
use Rattle.lvm_volume_plan.specs.Faults.{TakesCommands, HasSpareRoom, RefusesAll}
use Rattle.lvm_volume_plan.specs.CopiesFaults.{HasVolume, AreFewer, is_loss, IsFirstLoss}

-- ---- the rows

-- the volume with its first copies
abbrev pub kept_row : LvRow → ℕ → LvRow
kept_row row copies = with_map row copies (first_copies row copies)

-- the volume of another number and name that has those behind them, in the order in which they stood
abbrev pub split_row : LvRow → ℕ → ℕ → List ℕ → LvRow
split_row row copies number name = record row { number = number; name = name; copies = row.copies - copies; map = further_copies row copies }

-- the group with both
abbrev pub with_split : Descriptor → LvRow → ℕ → ℕ → List ℕ → Descriptor
with_split d row copies number name = with_volume (with_copies d row.number copies (first_copies row copies)) (split_row row copies number name)

-- ---- why it isn't split

-- This is the volume of the number, and none has the new name;
pub record HasNames (lv : ℕ) (name : List ℕ) (core : Core) (row : LvRow) : Type 0 where
  pub found : HasVolume lv core row
  pub new : HasNoVolumeNamed core.descriptor.lvs name

-- it is to keep some copies, and fewer than it has;
pub record MayPart (lv : ℕ) (name : List ℕ) (copies : ℕ) (core : Core) (row : LvRow) : Type 0 where
  pub named : HasNames lv name core row
  pub are : AreFewer row copies

-- whether one of these copies can't be used: the status calls it stale, or its disk missing
abbrev pub has_unusable : Status → List Pp → Bool
has_unusable s copies = list_any (λ p. calls_stale s p || calls_missing s p.disk) copies

-- each copy behind the first ones can be used, and the first logical partition of which one can't
abbrev pub AreUsableBehind : Status → LvRow → ℕ → Type 0
AreUsableBehind s row copies = (lp : ℕ) → lp < row.lps → IsFalse (has_unusable s (drop copies (copies_of row lp)))

pub record IsFirstUnusable (s : Status) (row : LvRow) (copies lp : ℕ) : Type 0 where
  pub inside : lp < row.lps
  pub unusable : IsTrue (has_unusable s (drop copies (copies_of row lp)))
  pub lower : (n : ℕ) → n < lp → IsFalse (has_unusable s (drop copies (copies_of row n)))

-- no logical partition loses a fresh copy behind the first ones and keeps none that can be used
abbrev pub NoneIsLost : Status → LvRow → ℕ → Type 0
NoneIsLost s row copies = (lp : ℕ) → lp < row.lps → IsFalse (is_loss s row copies lp)

-- so each copy of the new volume can be used, and one of each logical partition of the other;
pub record MayServeBoth (s : Status) (row : LvRow) (copies : ℕ) : Type 0 where
  pub usable : AreUsableBehind s row copies
  pub kept : NoneIsLost s row copies

-- why that isn't so
abbrev pub RefusesCopies : Status → LvRow → ℕ → GroupFault → Type 0
RefusesCopies s row copies (fault.StaleCopy lp) = IsFirstUnusable s row copies lp
RefusesCopies s row copies (fault.LastFresh lp) = AreUsableBehind s row copies × IsFirstLoss s row copies lp
RefusesCopies s row copies _ = ⊥

pub record HasCopiesFor (lv : ℕ) (name : List ℕ) (copies : ℕ) (core : Core) (row : LvRow) : Type 0 where
  pub parts : MayPart lv name copies core row
  pub serve : MayServeBoth core.status.committed row copies

-- the group may have a volume more;
pub record HasNumberFor (lv : ℕ) (name : List ℕ) (copies : ℕ) (core : Core) (row : LvRow) : Type 0 where
  pub copies_for : HasCopiesFor lv name copies core row
  pub fewer : length core.descriptor.lvs < most_volumes core.descriptor.big

-- and there is room among the entries and the numbers.
pub record MayBeSplit (lv : ℕ) (name : List ℕ) (copies : ℕ) (core : Core) (row : LvRow) : Type 0 where
  pub counted : HasNumberFor lv name copies core row
  pub room : HasSpareRoom core

-- why it isn't, each cause exactly where it holds and those before it don't; want of memory, which is free, only where nothing else stands against it
abbrev pub RefusesSplit : ℕ → List ℕ → ℕ → Core → GroupFault → Type 0
RefusesSplit lv name copies core fault.NoVolume = TakesCommands core × (volume_of core.descriptor lv ≡ None)
RefusesSplit lv name copies core fault.VolumeExists = ((row : LvRow) × HasVolume lv core row) × ((number : ℕ) × IsNumberOf core.descriptor.lvs name number)
RefusesSplit lv name copies core (fault.CopyLimit now) = (row : LvRow) × HasNames lv name core row × (AreFewer row copies → ⊥) × (now ≡ row.copies)
RefusesSplit lv name copies core (fault.StaleCopy lp) = (row : LvRow) × MayPart lv name copies core row × RefusesCopies core.status.committed row copies (fault.StaleCopy lp)
RefusesSplit lv name copies core (fault.LastFresh lp) = (row : LvRow) × MayPart lv name copies core row × RefusesCopies core.status.committed row copies (fault.LastFresh lp)
RefusesSplit lv name copies core (fault.TooMany limit) = ((row : LvRow) × HasCopiesFor lv name copies core row) × (limit ≡ most_volumes core.descriptor.big) × (limit ≤ length core.descriptor.lvs)
RefusesSplit lv name copies core fault.HistoryFull = ((row : LvRow) × HasNumberFor lv name copies core row) × (HasSpareRoom core → ⊥)
RefusesSplit lv name copies core fault.Memory = (row : LvRow) × MayBeSplit lv name copies core row
RefusesSplit lv name copies core fault.Dark = RefusesAll core fault.Dark
RefusesSplit lv name copies core (fault.WentOff have total) = RefusesAll core (fault.WentOff have total)
RefusesSplit lv name copies core fault.Busy = RefusesAll core fault.Busy
RefusesSplit lv name copies core (fault.NoRoom free) = ⊥
RefusesSplit lv name copies core (fault.DiskFailed disk) = ⊥
RefusesSplit lv name copies core fault.Stuck = ⊥
