-- What the making and the removal of a volume answer.
use Rattle.std.specs.Prelude.{◌≡◌, ◌⊎◌, ℕ, ◌<◌, List, Result, Ok, Err, IsTrue, IsFalse, All, Contains, slice_set}
use Rattle.lvm_num.specs.declared.place.Pp.{Pp}
use Rattle.lvm_num.specs.declared.descriptor.Descriptor.{Descriptor}
use Rattle.lvm_num.specs.Geometry.{volume_blocks}
use Rattle.lvm_num.specs.Status.{calls_stale, calls_dirty}
use Rattle.lvm_disk.specs.Device.{Device, IsReady}
use Rattle.lvm_vol.specs.declared.entry.Vol.TheVariants.{Lv}
use Rattle.lvm_vol.specs.Facts.{Making, Made, Removing, Removed}
use Rattle.lvm_vol.specs.Log.{Log, with_fact}
use Rattle.lvm_map.specs.FirstFit.{has_partition_on}
use Rattle.lvm_session.specs.State.{Core, State, is_there}
use Rattle.lvm_volume_plan.specs.passed.Core.{IsZeroed, Scope}
use Rattle.lvm_volumes.specs.Endings.{CommandDarkened, CommandWentOff, CommandStuck, CommandFailed, commanding, removing_by, with_descriptor}
use Rattle.lvm_volume_plan.specs.declared.fault.GroupFault.{GroupFault}
use Rattle.lvm_volume_plan.specs.declared.fault.GroupFault.TheVariants as fault
use Rattle.lvm_volume_plan.specs.declared.new_volume.NewVolume.{NewVolume}
use Rattle.lvm_volume_plan.specs.Faults.{HasPlaces, RefusesFor, MayBeMade, MayBeRemoved, RefusesMklv, RefusesRmlv}
use Rattle.lvm_volume_plan.specs.NewVolume.{IsLowestFree, row_for, with_volume, without_volume}

-- ---- the making

-- a partition that first fit gives the volume
abbrev pub IsChosen : NewVolume → Core → Pp → Type 0
IsChosen v core pp = (map : List Pp) × HasPlaces v core map × Contains map pp

-- the descriptor with the volume
abbrev pub IsWith : NewVolume → Core → Descriptor → Type 0
IsWith v core next = (map : List Pp) × HasPlaces v core map × ((lv : ℕ) × IsLowestFree core.descriptor lv × (next ≡ with_volume core.descriptor (row_for v lv map)))

-- the partitions are zeros, where the media is told
abbrev pub AreZeroed : ℕ → List Pp → Device → Type 0
AreZeroed mib map device = All (λ pp. IsZeroed mib pp device) map

-- the history with the entry that the volume is in the making
abbrev pub making : NewVolume → ℕ → State → Log
making v lv s = with_fact s.core.history (Making lv (volume_blocks s.core.descriptor.mib v.lps) v.mode)

-- The volume of the lowest free number is made: the partitions that first fit gives it are zeros, and fresh on members that aren't missing, the descriptor
-- names it, and the history says so; members that became missing aside, and the copies that they left behind, nothing else of the session has changed.
pub record IsVolumeMade (v : NewVolume) (lv : ℕ) (old new : State) : Type 0 where
  pub map : List Pp
  pub may : MayBeMade v old.core map
  pub lowest : IsLowestFree old.core.descriptor lv
  pub is : new.core ≡ record old.core {
    descriptor = with_volume old.core.descriptor (row_for v lv map);
    history = with_fact (making v lv old) (Made lv);
    last = slice_set old.core.last lv 0;
    status = new.core.status;
    homes = new.core.homes;
  }
  pub zeros : AreZeroed old.core.descriptor.mib map new.device
  pub fresh : All (λ (pp : Pp). IsTrue (is_there new.core pp.disk) → IsFalse (calls_stale new.core.status.committed pp)) map
  pub ready : IsReady new.device
  pub cuts : new.device.counts.cuts ≡ old.device.counts.cuts

-- What was entered before it broke off: nothing, or, once its partitions were zeros, that the volume is in the making.
abbrev pub HasEntered : NewVolume → List Pp → State → State → Log → Type 0
HasEntered v map old new entered =
    (entered ≡ old.core.history) ⊎ ((lv : ℕ) × IsLowestFree old.core.descriptor lv × (entered ≡ making v lv old) × AreZeroed old.core.descriptor.mib map new.device)

-- Nothing stood against the volume, and its making broke off so.
pub record MakingEnds (v : NewVolume) (old new : State) (Ends : Log → Type 0) : Type 0 where
  pub map : List Pp
  pub may : MayBeMade v old.core map
  pub entered : Log
  pub so_far : HasEntered v map old new entered
  pub ends : Ends entered

-- a disk on which the volume was to have a partition failed, and none of these below it
pub record MakingFails (v : NewVolume) (disk : ℕ) (old new : State) : Type 0 where
  pub map : List Pp
  pub may : MayBeMade v old.core map
  pub its : IsTrue (has_partition_on map disk)
  pub lowest : (d : ℕ) → d < disk → IsTrue (has_partition_on map d) → new.device.counts.faults d ≡ old.device.counts.faults d
  pub ends : CommandFailed disk old new

-- what it may do: commit the descriptor with the volume, and write zeros to its partitions and make them fresh
abbrev pub to_make : NewVolume → Core → Scope
to_make v core = commanding (IsWith v core) (IsChosen v core) 2

-- the volume's number, or why it wasn't made
abbrev pub MklvGives : NewVolume → ℕ → State → State → Result ℕ GroupFault → Type 0
MklvGives v patience old new (Ok lv) = IsVolumeMade v lv old new
MklvGives v patience old new (Err fault.Dark) = RefusesFor (RefusesMklv v) fault.Dark old new ⊎ MakingEnds v old new (λ entered. CommandDarkened entered old new)
MklvGives v patience old new (Err (fault.WentOff have total)) = RefusesFor (RefusesMklv v) (fault.WentOff have total) old new ⊎ MakingEnds v old new (λ entered. CommandWentOff entered have total old new)
MklvGives v patience old new (Err fault.Stuck) = MakingEnds v old new (λ entered. CommandStuck entered patience old new)
MklvGives v patience old new (Err (fault.DiskFailed disk)) = MakingFails v disk old new
MklvGives v patience old new (Err fault.Busy) = RefusesFor (RefusesMklv v) fault.Busy old new
MklvGives v patience old new (Err fault.NoVolume) = ⊥
MklvGives v patience old new (Err fault.VolumeExists) = RefusesFor (RefusesMklv v) fault.VolumeExists old new
MklvGives v patience old new (Err (fault.CopyLimit now)) = RefusesFor (RefusesMklv v) (fault.CopyLimit now) old new
MklvGives v patience old new (Err (fault.StaleCopy lp)) = ⊥
MklvGives v patience old new (Err (fault.LastFresh lp)) = ⊥
MklvGives v patience old new (Err (fault.TooMany limit)) = RefusesFor (RefusesMklv v) (fault.TooMany limit) old new
MklvGives v patience old new (Err (fault.NoRoom free)) = RefusesFor (RefusesMklv v) (fault.NoRoom free) old new
MklvGives v patience old new (Err fault.HistoryFull) = RefusesFor (RefusesMklv v) fault.HistoryFull old new
MklvGives v patience old new (Err fault.Memory) = RefusesFor (RefusesMklv v) fault.Memory old new

-- ---- the removal

-- the history with the entry that the volume is being removed
abbrev pub removing : ℕ → State → Log
removing lv s = with_fact s.core.history (Removing (Lv lv))

-- the history with both entries of its removal
abbrev pub removed : ℕ → State → Log
removed lv s = with_fact (removing lv s) (Removed (Lv lv))

-- the session with the descriptor without it
abbrev pub unnamed : ℕ → State → State
unnamed lv s = with_descriptor (without_volume s.core.descriptor lv) s

-- The volume is removed: the descriptor names it no more, the history says so, and its number isn't dirty; members that became missing aside, and the copies
-- that they left behind, nothing else of the session has changed.
pub record IsVolumeRemoved (lv : ℕ) (old new : State) : Type 0 where
  pub may : MayBeRemoved lv old.core
  pub is : new.core ≡ record old.core {
    descriptor = without_volume old.core.descriptor lv;
    history = removed lv old;
    status = new.core.status;
    homes = new.core.homes;
  }
  pub clean : IsFalse (calls_dirty new.core.status.committed lv)
  pub ready : IsReady new.device
  pub cuts : new.device.counts.cuts ≡ old.device.counts.cuts

-- Its removal was entered, and broke off so: before it was done, or behind both entries, at the status without its mark.
pub record RemovalEnds (lv : ℕ) (old : State) (Ends : Log → State → Type 0) : Type 0 where
  pub may : MayBeRemoved lv old.core
  pub ends : Ends (removing lv old) old ⊎ Ends (removed lv old) (unnamed lv old)

-- what it may do: commit the descriptor without the volume, and drop its mark
abbrev pub to_remove : ℕ → Core → Scope
to_remove lv core = removing_by (λ next. next ≡ without_volume core.descriptor lv) lv

-- that it is removed, or why it isn't
abbrev pub RmlvGives : ℕ → ℕ → State → State → Result (Unit {0}) GroupFault → Type 0
RmlvGives lv patience old new (Ok done) = IsVolumeRemoved lv old new
RmlvGives lv patience old new (Err fault.Dark) = RefusesFor (RefusesRmlv lv) fault.Dark old new ⊎ RemovalEnds lv old (λ entered from. CommandDarkened entered from new)
RmlvGives lv patience old new (Err (fault.WentOff have total)) = RefusesFor (RefusesRmlv lv) (fault.WentOff have total) old new ⊎ RemovalEnds lv old (λ entered from. CommandWentOff entered have total from new)
RmlvGives lv patience old new (Err fault.Stuck) = RemovalEnds lv old (λ entered from. CommandStuck entered patience from new)
RmlvGives lv patience old new (Err fault.Busy) = RefusesFor (RefusesRmlv lv) fault.Busy old new
RmlvGives lv patience old new (Err fault.NoVolume) = RefusesFor (RefusesRmlv lv) fault.NoVolume old new
RmlvGives lv patience old new (Err fault.HistoryFull) = RefusesFor (RefusesRmlv lv) fault.HistoryFull old new
RmlvGives lv patience old new (Err fault.Memory) = RefusesFor (RefusesRmlv lv) fault.Memory old new
RmlvGives lv patience old new (Err _) = ⊥
