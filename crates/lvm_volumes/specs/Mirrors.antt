-- What the addition and the removal of copies answer.
use Rattle.std.specs.Prelude.{◌≡◌, ◌⊎◌, ℕ, List, Some, Result, Ok, Err, IsTrue, All, Contains}
use Rattle.lvm_num.specs.declared.place.Pp.{Pp}
use Rattle.lvm_num.specs.declared.descriptor.LvRow.{LvRow}
use Rattle.lvm_num.specs.declared.descriptor.Descriptor.{Descriptor}
use Rattle.lvm_num.specs.Descriptor.{volume_of}
use Rattle.lvm_num.specs.Status.{calls_stale}
use Rattle.lvm_disk.specs.Device.{IsReady}
use Rattle.lvm_session.specs.State.{Core, State}
use Rattle.lvm_volume_plan.specs.passed.Core.{Scope, NoPartition, NoVolume, Always}
use Rattle.lvm_volume_plan.specs.declared.fault.GroupFault.{GroupFault}
use Rattle.lvm_volume_plan.specs.Faults.{RefusesFor}
use Rattle.lvm_volume_plan.specs.declared.fault.GroupFault.TheVariants as fault
use Rattle.lvm_volumes.specs.Endings.{CommandDarkened, CommandWentOff, CommandStuck}
use Rattle.lvm_volume_plan.specs.Copies.{with_map, with_copies, first_copies, further_copies}
use Rattle.lvm_volume_plan.specs.CopiesFaults.{HasFurtherPlaces, MayBeAdded, RefusesMklvcopy, MayBeTaken, RefusesRmlvcopy}

-- ---- more copies

-- a partition that first fit gives the volume for a further copy
abbrev pub IsFurther : ℕ → ℕ → Core → Pp → Type 0
IsFurther lv copies core pp = (row : LvRow) × ((pps : List Pp) × HasFurtherPlaces lv copies core row pps × Contains (further_copies (with_map row copies pps) row.copies) pp)

-- the descriptor in which the volume has the further copies
abbrev pub IsWithMore : ℕ → ℕ → Core → Descriptor → Type 0
IsWithMore lv copies core next = (row : LvRow) × ((pps : List Pp) × HasFurtherPlaces lv copies core row pps × (next ≡ with_copies core.descriptor lv copies pps))

-- what it may do: make the further copies stale, and commit the descriptor with them
abbrev pub to_add : ℕ → ℕ → Core → Scope
to_add lv copies core = record { next = IsWithMore lv copies core; zeros = NoPartition; stale = IsFurther lv copies core; fresh = NoPartition; marks = NoVolume; numbers = 2; lets = Always }

-- The volume has its old copies and behind them these, which first fit gave it and which are stale; members that became missing aside, and the copies that
-- they left behind, nothing else of the session has changed.
pub record AreAdded (lv copies : ℕ) (old new : State) (added : List Pp) : Type 0 where
  pub row : LvRow
  pub pps : List Pp
  pub may : MayBeAdded lv copies old.core row pps
  pub added_is : added ≡ further_copies (with_map row copies pps) row.copies
  pub is : new.core ≡ record old.core { descriptor = with_copies old.core.descriptor lv copies pps; status = new.core.status; homes = new.core.homes }
  pub stale : All (λ (pp : Pp). IsTrue (calls_stale new.core.status.committed pp)) added
  pub ready : IsReady new.device
  pub cuts : new.device.counts.cuts ≡ old.device.counts.cuts

-- nothing stood against the copies, and their addition broke off so
pub record AddingEnds (lv copies : ℕ) (old : State) (Ends : Type 0) : Type 0 where
  pub row : LvRow
  pub pps : List Pp
  pub may : MayBeAdded lv copies old.core row pps
  pub ends : Ends

-- the partitions that were added, or why none were
abbrev pub MklvcopyGives : ℕ → ℕ → ℕ → State → State → Result (List Pp) GroupFault → Type 0
MklvcopyGives lv copies patience old new (Ok added) = AreAdded lv copies old new added
MklvcopyGives lv copies patience old new (Err fault.Dark) = RefusesFor (RefusesMklvcopy lv copies) fault.Dark old new ⊎ AddingEnds lv copies old (CommandDarkened old.core.history old new)
MklvcopyGives lv copies patience old new (Err (fault.WentOff have total)) = RefusesFor (RefusesMklvcopy lv copies) (fault.WentOff have total) old new ⊎ AddingEnds lv copies old (CommandWentOff old.core.history have total old new)
MklvcopyGives lv copies patience old new (Err fault.Stuck) = AddingEnds lv copies old (CommandStuck old.core.history patience old new)
MklvcopyGives lv copies patience old new (Err (fault.DiskFailed disk)) = ⊥
MklvcopyGives lv copies patience old new (Err fault.Busy) = RefusesFor (RefusesMklvcopy lv copies) fault.Busy old new
MklvcopyGives lv copies patience old new (Err fault.NoVolume) = RefusesFor (RefusesMklvcopy lv copies) fault.NoVolume old new
MklvcopyGives lv copies patience old new (Err fault.VolumeExists) = ⊥
MklvcopyGives lv copies patience old new (Err (fault.CopyLimit now)) = RefusesFor (RefusesMklvcopy lv copies) (fault.CopyLimit now) old new
MklvcopyGives lv copies patience old new (Err (fault.StaleCopy lp)) = ⊥
MklvcopyGives lv copies patience old new (Err (fault.LastFresh lp)) = ⊥
MklvcopyGives lv copies patience old new (Err (fault.TooMany limit)) = ⊥
MklvcopyGives lv copies patience old new (Err (fault.NoRoom free)) = RefusesFor (RefusesMklvcopy lv copies) (fault.NoRoom free) old new
MklvcopyGives lv copies patience old new (Err fault.HistoryFull) = RefusesFor (RefusesMklvcopy lv copies) fault.HistoryFull old new
MklvcopyGives lv copies patience old new (Err fault.Memory) = RefusesFor (RefusesMklvcopy lv copies) fault.Memory old new

-- ---- fewer copies

-- the descriptor in which the volume keeps its first copies
abbrev pub IsWithFirst : ℕ → ℕ → Core → Descriptor → Type 0
IsWithFirst lv copies core next = (row : LvRow) × (volume_of core.descriptor lv ≡ Some row) × (next ≡ with_copies core.descriptor lv copies (first_copies row copies))

-- what it may do: commit that
abbrev pub to_take : ℕ → ℕ → Core → Scope
to_take lv copies core = record { next = IsWithFirst lv copies core; zeros = NoPartition; stale = NoPartition; fresh = NoPartition; marks = NoVolume; numbers = 1; lets = Always }

-- The volume keeps its first copies; members that became missing aside, and the copies that they left behind, nothing else of the session has changed.
pub record AreTaken (lv copies : ℕ) (old new : State) : Type 0 where
  pub row : LvRow
  pub may : MayBeTaken lv copies old.core row
  pub is : new.core ≡ record old.core { descriptor = with_copies old.core.descriptor lv copies (first_copies row copies); status = new.core.status; homes = new.core.homes }
  pub ready : IsReady new.device
  pub cuts : new.device.counts.cuts ≡ old.device.counts.cuts

-- nothing stood against it, and it broke off so
pub record TakingEnds (lv copies : ℕ) (old : State) (Ends : Type 0) : Type 0 where
  pub row : LvRow
  pub may : MayBeTaken lv copies old.core row
  pub ends : Ends

-- that they are removed, or why they aren't
abbrev pub RmlvcopyGives : ℕ → ℕ → ℕ → State → State → Result (Unit {0}) GroupFault → Type 0
RmlvcopyGives lv copies patience old new (Ok done) = AreTaken lv copies old new
RmlvcopyGives lv copies patience old new (Err fault.Dark) = RefusesFor (RefusesRmlvcopy lv copies) fault.Dark old new ⊎ TakingEnds lv copies old (CommandDarkened old.core.history old new)
RmlvcopyGives lv copies patience old new (Err (fault.WentOff have total)) = RefusesFor (RefusesRmlvcopy lv copies) (fault.WentOff have total) old new ⊎ TakingEnds lv copies old (CommandWentOff old.core.history have total old new)
RmlvcopyGives lv copies patience old new (Err fault.Stuck) = TakingEnds lv copies old (CommandStuck old.core.history patience old new)
RmlvcopyGives lv copies patience old new (Err (fault.DiskFailed disk)) = ⊥
RmlvcopyGives lv copies patience old new (Err fault.Busy) = RefusesFor (RefusesRmlvcopy lv copies) fault.Busy old new
RmlvcopyGives lv copies patience old new (Err fault.NoVolume) = RefusesFor (RefusesRmlvcopy lv copies) fault.NoVolume old new
RmlvcopyGives lv copies patience old new (Err fault.VolumeExists) = ⊥
RmlvcopyGives lv copies patience old new (Err (fault.CopyLimit now)) = RefusesFor (RefusesRmlvcopy lv copies) (fault.CopyLimit now) old new
RmlvcopyGives lv copies patience old new (Err (fault.StaleCopy lp)) = ⊥
RmlvcopyGives lv copies patience old new (Err (fault.LastFresh lp)) = RefusesFor (RefusesRmlvcopy lv copies) (fault.LastFresh lp) old new
RmlvcopyGives lv copies patience old new (Err (fault.TooMany limit)) = ⊥
RmlvcopyGives lv copies patience old new (Err (fault.NoRoom free)) = ⊥
RmlvcopyGives lv copies patience old new (Err fault.HistoryFull) = RefusesFor (RefusesRmlvcopy lv copies) fault.HistoryFull old new
RmlvcopyGives lv copies patience old new (Err fault.Memory) = RefusesFor (RefusesRmlvcopy lv copies) fault.Memory old new
