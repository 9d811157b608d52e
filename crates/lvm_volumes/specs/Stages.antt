-- The stages in which a volume is made or removed on a session.
use Rattle.std.specs.Prelude.{◌≡◌, ◌≢◌, ◌⊎◌, ℕ, ◌<◌, ◌≤◌, List, None, Result, Ok, Err, IsTrue, IsFalse, All, AllPairs, slice_set}
use Rattle.lvm_num.specs.declared.place.Pp.{Pp}
use Rattle.lvm_num.specs.declared.descriptor.Descriptor.{Descriptor}
use Rattle.lvm_num.specs.declared.status.Status.{Status}
use Rattle.lvm_num.specs.Descriptor.{IsPartitionOf, IsValid, volume_of}
use Rattle.lvm_num.specs.Status.{IsVolumeNumber, calls_stale, calls_missing, calls_dirty}
use Rattle.lvm_disk.specs.Counts.{Rose}
use Rattle.lvm_disk.specs.Device.{IsReady}
use Rattle.lvm_vol.specs.Facts.{Fact, Making, Made}
use Rattle.lvm_vol.specs.Log.{Log, with_fact}
use Rattle.lvm_map.specs.FirstFit.{has_partition_on}
use Rattle.lvm_volume_plan.specs.passed.Core.{Always, NoDescriptor, NoPartition, Scope, CommitFault, IsSettled, HasGoneDark, IsLeftOut, CommitEnds, Leaves, committing, IsAsBefore, last_reads}
use Rattle.lvm_volume_plan.specs.passed.Commit.{IsFree, MarksLeft}
use Rattle.lvm_volume_plan.specs.passed.CoreFaultCommitFault as commit
use Rattle.lvm_session.specs.State.{Core, State, is_there}
use Rattle.lvm_volumes.specs.Endings.{CommandDarkened, CommandWentOff, CommandStuck, CommandFailed, with_descriptor}
use Rattle.lvm_volumes.specs.Volumes.{AreZeroed, removed, removing}
use Rattle.lvm_volume_plan.specs.declared.new_volume.NewVolume.{NewVolume}
use Rattle.lvm_volume_plan.specs.declared.new_volume.VolumePlan.{VolumePlan}
use Rattle.lvm_volume_plan.specs.PlannedVolume.{IsPlannedVolume}

-- ---- whatever comes of it

-- the command broke off so, once this was entered
abbrev pub CommandBroke : Log → ℕ → State → State → CommitFault → Type 0
CommandBroke entered patience old new commit.Dark = CommandDarkened entered old new
CommandBroke entered patience old new (commit.WentOff have total) = CommandWentOff entered have total old new
CommandBroke entered patience old new commit.Stuck = CommandStuck entered patience old new
CommandBroke entered patience old new (commit.DiskFailed disk) = ⊥

-- ---- a commit between two entries

-- the session with one entry more
abbrev pub with_entry : State → Fact → State
with_entry s f = record s { core = record s.core { history = with_fact s.core.history f; last = last_reads f s.core.last } }

-- the last entry is made where all went well
abbrev pub ClosesBy : Fact → State → State → Result (Unit {0}) CommitFault → Type 0
ClosesBy last mid new (Ok done) = new ≡ with_entry mid last
ClosesBy last mid new (Err why) = new ≡ mid

-- The first entry is made, the commit of the descriptor ends so, and the last entry is made where it ended well.
pub record CommitsBetween (first last : Fact) (next : Descriptor) (before after : ℕ) (old new : State) (answer : Result (Unit {0}) CommitFault) : Type 0 where
  pub mid : State
  pub leaves : Leaves (committing next) before after (with_entry old first) mid
  pub left : MarksLeft next old.core.status mid.core.status
  pub ends : CommitEnds next before (with_entry old first) mid answer
  pub closes : ClosesBy last mid new answer

-- ---- zeros

-- partitions of members that aren't missing, of no volume, and each once
pub record AreUnusedOn (core : Core) (map : List Pp) : Type 0 where
  pub there : All (λ (pp : Pp). IsTrue (is_there core pp.disk)) map
  pub free : All (IsFree core.descriptor) map
  pub places : All (IsPartitionOf core.descriptor) map
  pub disks : All (λ (pp : Pp). pp.disk < 128) map
  pub once : AllPairs (λ a b. a ≢ b) map

-- zeros stand on all of them
pub record HasZeroedAll (map : List Pp) (old new : State) : Type 0 where
  pub same : IsAsBefore old new
  pub zeros : AreZeroed old.core.descriptor.mib map new.device

-- a transfer of a disk that has one failed, and of no other
pub record HasFailedOn (map : List Pp) (disk : ℕ) (old new : State) : Type 0 where
  pub same : IsAsBefore old new
  pub its : IsTrue (has_partition_on map disk)
  pub others : (d : ℕ) → (d ≡ disk → ⊥) → new.device.counts.faults d ≡ old.device.counts.faults d
  pub fault : Rose (old.device.counts.faults disk) (new.device.counts.faults disk)

abbrev pub ZerosEnd : List Pp → ℕ → State → State → Result (Unit {0}) CommitFault → Type 0
ZerosEnd map patience old new (Ok done) = HasZeroedAll map old new
ZerosEnd map patience old new (Err (commit.DiskFailed disk)) = HasFailedOn map disk old new
ZerosEnd map patience old new (Err commit.Dark) = HasGoneDark old new
ZerosEnd map patience old new (Err commit.Stuck) = IsLeftOut patience old new
ZerosEnd map patience old new (Err (commit.WentOff have total)) = ⊥

-- ---- fresh zeros

-- the lowest disk of the partitions that the status calls missing
pub record IsLowestMissing (status : Status) (map : List Pp) (disk : ℕ) : Type 0 where
  pub its : IsTrue (has_partition_on map disk)
  pub missing : IsTrue (calls_missing status disk)
  pub lowest : (d : ℕ) → d < disk → IsTrue (has_partition_on map d) → IsFalse (calls_missing status d)

-- The partitions are zeros and fresh, on members that aren't missing.
pub record AreCleared (map : List Pp) (old new : State) : Type 0 where
  pub settled : IsSettled new.core
  pub is : new.core ≡ record old.core { status = new.core.status; homes = new.core.homes }
  pub there : All (λ (pp : Pp). IsTrue (is_there new.core pp.disk)) map
  pub fresh : All (λ (pp : Pp). IsFalse (calls_stale new.core.status.committed pp)) map
  pub zeros : AreZeroed old.core.descriptor.mib map new.device
  pub ready : IsReady new.device
  pub cuts : new.device.counts.cuts ≡ old.device.counts.cuts

-- a disk that has one failed, and none of theirs below it
pub record DiskFailsFirst (map : List Pp) (disk : ℕ) (old new : State) : Type 0 where
  pub its : IsTrue (has_partition_on map disk)
  pub lowest : (d : ℕ) → d < disk → IsTrue (has_partition_on map d) → new.device.counts.faults d ≡ old.device.counts.faults d
  pub ends : CommandFailed disk old new
  pub settled : IsSettled new.core

-- how they came to be so, or didn't
abbrev pub ClearEnds : List Pp → ℕ → State → State → Result (Unit {0}) CommitFault → Type 0
ClearEnds map patience old new (Ok done) = AreCleared map old new
ClearEnds map patience old new (Err (commit.DiskFailed disk)) = DiskFailsFirst map disk old new
ClearEnds map patience old new (Err commit.Dark) = CommandDarkened old.core.history old new
ClearEnds map patience old new (Err (commit.WentOff have total)) = CommandWentOff old.core.history have total old new
ClearEnds map patience old new (Err commit.Stuck) = CommandStuck old.core.history patience old new

-- ---- the whole making

-- the history with the entry of the plan's volume
abbrev pub making_of : VolumePlan → State → Log
making_of plan s = with_fact s.core.history (Making plan.number plan.blocks plan.mode)

-- what was entered before it broke off: nothing, or, once the partitions were zeros, that the volume is in the making
pub record MakingBroke (plan : VolumePlan) (old new : State) (Ends : Log → Type 0) : Type 0 where
  pub entered : Log
  pub so_far : (entered ≡ old.core.history) ⊎ ((entered ≡ making_of plan old) × AreZeroed old.core.descriptor.mib plan.map new.device)
  pub ends : Ends entered

-- The descriptor with the volume is committed, its partitions are zeros, and fresh on members that aren't missing, and both entries are made.
pub record IsNamed (plan : VolumePlan) (old new : State) : Type 0 where
  pub settled : IsSettled new.core
  pub is : new.core ≡ record old.core { descriptor = plan.next; history = with_fact (making_of plan old) (Made plan.number); last = slice_set old.core.last plan.number 0; status = new.core.status; homes = new.core.homes }
  pub fresh : All (λ (pp : Pp). IsTrue (is_there new.core pp.disk) → IsFalse (calls_stale new.core.status.committed pp)) plan.map
  pub zeros : AreZeroed old.core.descriptor.mib plan.map new.device
  pub ready : IsReady new.device
  pub cuts : new.device.counts.cuts ≡ old.device.counts.cuts

abbrev pub MakeEnds : VolumePlan → ℕ → State → State → Result (Unit {0}) CommitFault → Type 0
MakeEnds plan patience old new (Ok done) = IsNamed plan old new
MakeEnds plan patience old new (Err (commit.DiskFailed disk)) = DiskFailsFirst plan.map disk old new
MakeEnds plan patience old new (Err commit.Dark) = MakingBroke plan old new (λ entered. CommandDarkened entered old new)
MakeEnds plan patience old new (Err (commit.WentOff have total)) = MakingBroke plan old new (λ entered. CommandWentOff entered have total old new)
MakeEnds plan patience old new (Err commit.Stuck) = MakingBroke plan old new (λ entered. CommandStuck entered patience old new)

-- nothing stands against a volume with this plan
abbrev pub MayMake : Core → VolumePlan → Type 0
MayMake core plan = (v : NewVolume) × IsPlannedVolume v core plan × (1 ≤ v.lps)

-- ---- the whole removal

-- The descriptor without the volume is committed, and both entries are made.
pub record IsUnnamed (lv : ℕ) (next : Descriptor) (old new : State) : Type 0 where
  pub settled : IsSettled new.core
  pub is : new.core ≡ record old.core { descriptor = next; history = removed lv old; status = new.core.status; homes = new.core.homes }
  pub ready : IsReady new.device
  pub cuts : new.device.counts.cuts ≡ old.device.counts.cuts

-- how they came to be so, or didn't
abbrev pub UnnameEnds : ℕ → Descriptor → ℕ → State → State → Result (Unit {0}) CommitFault → Type 0
UnnameEnds lv next patience old new (Ok done) = IsUnnamed lv next old new
UnnameEnds lv next patience old new (Err why) = CommandBroke (removing lv old) patience old new why

-- the group hasn't a volume of the number, which one may have
pub record IsGoneFrom (lv : ℕ) (d : Descriptor) : Type 0 where
  pub number : IsVolumeNumber lv
  pub valid : IsValid d
  pub none : volume_of d lv ≡ None

-- what may be done then: a status is committed in which it isn't dirty
abbrev pub unmarking : ℕ → Scope
unmarking lv = record { next = NoDescriptor; zeros = NoPartition; stale = NoPartition; fresh = NoPartition; marks = λ n. n ≡ lv; numbers = 1; lets = Always }

-- so its number isn't dirty
pub record IsGone (lv : ℕ) (next : Descriptor) (old new : State) : Type 0 where
  pub unnamed : IsUnnamed lv next old new
  pub clean : IsFalse (calls_dirty new.core.status.committed lv)

-- a removal broke off before the descriptor was committed, or behind both entries
abbrev pub RemoveEnds : ℕ → Descriptor → ℕ → State → State → Result (Unit {0}) CommitFault → Type 0
RemoveEnds lv next patience old new (Ok done) = IsGone lv next old new
RemoveEnds lv next patience old new (Err why) = CommandBroke (removing lv old) patience old new why ⊎ CommandBroke (removed lv old) patience (with_descriptor next old) new why
