-- What a split answers, and what it may do.
use Rattle.std.specs.Prelude.{◌≡◌, ◌⊎◌, ℕ, ◌&&◌, List, Result, Ok, Err, IsTrue, IsFalse, slice_set}
use Rattle.lvm_num.specs.declared.descriptor.LvRow.{LvRow}
use Rattle.lvm_num.specs.declared.descriptor.Descriptor.{Descriptor}
use Rattle.lvm_num.specs.Modes.{is_passive}
use Rattle.lvm_num.specs.Status.{calls_dirty}
use Rattle.lvm_disk.specs.Device.{IsReady}
use Rattle.lvm_vol.specs.Facts.{Made}
use Rattle.lvm_vol.specs.Log.{Log, with_fact}
use Rattle.lvm_session.specs.State.{Core, State}
use Rattle.lvm_volume_plan.specs.passed.Core.{NoPartition, Scope}
use Rattle.lvm_volume_plan.specs.declared.fault.GroupFault.{GroupFault}
use Rattle.lvm_volume_plan.specs.declared.fault.GroupFault.TheVariants as fault
use Rattle.lvm_volume_plan.specs.Faults.{RefusesFor}
use Rattle.lvm_volume_plan.specs.NewVolume.{IsLowestFree, IsInOrder}
use Rattle.lvm_volume_plan.specs.Split.{MayBeSplit, RefusesSplit, with_split}
use Rattle.lvm_volumes.specs.Endings.{CommandDarkened, CommandWentOff, CommandStuck}
use Rattle.lvm_split.specs.Premises.{MaySplitSince}
use Rattle.lvm_split.specs.Parting.{IsHeldBack, splitting}

-- the descriptor with both volumes
abbrev pub IsSplit : ℕ → List ℕ → ℕ → Core → Descriptor → Type 0
IsSplit lv name copies core next = (row : LvRow) × MayBeSplit lv name copies core row × ((number : ℕ) × IsLowestFree core.descriptor number × (next ≡ with_split core.descriptor row copies number name))

-- what it may do: commit that, and change the mark of the new volume
abbrev pub to_split : ℕ → List ℕ → ℕ → Core → Scope
to_split lv name copies core = record { next = IsSplit lv name copies core; zeros = NoPartition; stale = NoPartition; fresh = NoPartition; marks = IsLowestFree core.descriptor; numbers = 2; lets = MaySplitSince lv }

-- The volume keeps its first copies, one of the lowest free number has those behind them under the name, and both entries are made; the new one is dirty where
-- the other, in mode passive, was, and else only where its number was marked before. Members that became missing aside, and the copies that they left behind, nothing else of the session has changed.
pub record IsVolumeSplit (lv : ℕ) (name : List ℕ) (copies number : ℕ) (old new : State) : Type 0 where
  pub row : LvRow
  pub may : MayBeSplit lv name copies old.core row
  pub lowest : IsLowestFree old.core.descriptor number
  pub order : IsInOrder old.core.descriptor number
  pub is : new.core ≡ record old.core {
    descriptor = with_split old.core.descriptor row copies number name;
    history = with_fact (splitting lv number old) (Made number);
    last = slice_set old.core.last number 0;
    status = new.core.status;
    homes = new.core.homes;
  }
  pub dirty : IsTrue (is_passive row.mode && calls_dirty old.core.status.committed lv) → IsTrue (calls_dirty new.core.status.committed number)
  pub clean : IsFalse (is_passive row.mode && calls_dirty old.core.status.committed lv) → calls_dirty new.core.status.committed number ≡ calls_dirty old.core.status.committed number
  pub ready : IsReady new.device
  pub cuts : new.device.counts.cuts ≡ old.device.counts.cuts

-- nothing stood against the split, and it broke off so, once nothing was entered, or that the copies are about to become the volume
pub record SplittingEnds (lv : ℕ) (name : List ℕ) (copies : ℕ) (old : State) (Ends : Log → Type 0) : Type 0 where
  pub row : LvRow
  pub may : MayBeSplit lv name copies old.core row
  pub entered : Log
  pub so_far : (entered ≡ old.core.history) ⊎ ((number : ℕ) × IsLowestFree old.core.descriptor number × (entered ≡ splitting lv number old))
  pub ends : Ends entered

-- nothing stood against the split before the status with the mark of the new volume, and this does behind it
pub record SplittingHalts (lv : ℕ) (name : List ℕ) (copies : ℕ) (why : GroupFault) (old new : State) : Type 0 where
  pub row : LvRow
  pub may : MayBeSplit lv name copies old.core row
  pub halts : IsHeldBack lv copies why old new

-- the new volume's number, or why the volume wasn't split
abbrev pub SplitGives : ℕ → List ℕ → ℕ → ℕ → State → State → Result ℕ GroupFault → Type 0
SplitGives lv name copies patience old new (Ok number) = IsVolumeSplit lv name copies number old new
SplitGives lv name copies patience old new (Err fault.Dark) = RefusesFor (RefusesSplit lv name copies) fault.Dark old new ⊎ SplittingEnds lv name copies old (λ entered. CommandDarkened entered old new)
SplitGives lv name copies patience old new (Err (fault.WentOff have total)) = RefusesFor (RefusesSplit lv name copies) (fault.WentOff have total) old new ⊎ SplittingEnds lv name copies old (λ entered. CommandWentOff entered have total old new)
SplitGives lv name copies patience old new (Err fault.Stuck) = SplittingEnds lv name copies old (λ entered. CommandStuck entered patience old new)
SplitGives lv name copies patience old new (Err (fault.StaleCopy lp)) = RefusesFor (RefusesSplit lv name copies) (fault.StaleCopy lp) old new ⊎ SplittingHalts lv name copies (fault.StaleCopy lp) old new
SplitGives lv name copies patience old new (Err (fault.LastFresh lp)) = RefusesFor (RefusesSplit lv name copies) (fault.LastFresh lp) old new ⊎ SplittingHalts lv name copies (fault.LastFresh lp) old new
SplitGives lv name copies patience old new (Err fault.Busy) = RefusesFor (RefusesSplit lv name copies) fault.Busy old new
SplitGives lv name copies patience old new (Err fault.NoVolume) = RefusesFor (RefusesSplit lv name copies) fault.NoVolume old new
SplitGives lv name copies patience old new (Err fault.VolumeExists) = RefusesFor (RefusesSplit lv name copies) fault.VolumeExists old new
SplitGives lv name copies patience old new (Err (fault.CopyLimit now)) = RefusesFor (RefusesSplit lv name copies) (fault.CopyLimit now) old new
SplitGives lv name copies patience old new (Err (fault.TooMany limit)) = RefusesFor (RefusesSplit lv name copies) (fault.TooMany limit) old new
SplitGives lv name copies patience old new (Err fault.HistoryFull) = RefusesFor (RefusesSplit lv name copies) fault.HistoryFull old new
SplitGives lv name copies patience old new (Err fault.Memory) = RefusesFor (RefusesSplit lv name copies) fault.Memory old new
SplitGives lv name copies patience old new (Err (fault.NoRoom free)) = ⊥
SplitGives lv name copies patience old new (Err (fault.DiskFailed disk)) = ⊥
