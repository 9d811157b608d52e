-- How one write to some disks ends, and how several do, one after another.
use Rattle.std.specs.Prelude.{◌≡◌, ◌⊎◌, ℕ, ◌<◌, List, [], ◌∷◌, IsTrue, IsFalse}
use Rattle.lvm_num.specs.Buffer.{Buffer}
use Rattle.lvm_num.specs.Disks.{Disks, has}
use Rattle.lvm_disk.specs.Counts.{Rose}
use Rattle.lvm_disk.specs.Device.{Device}
use Rattle.lvm_disk.specs.Paths.{DeviceStep, Path}
use Rattle.lvm_kept.specs.Plans.{Plan}
use Rattle.lvm_write.specs.declared.write.Wrote.{Wrote}
use Rattle.lvm_write.specs.declared.write.Wrote.TheVariants as wrote
use Rattle.lvm_write.specs.Written.{KeepsShelf, IsWriting, IsDarkened, IsGivenUp}
use Rattle.lvm_write.specs.Writes.{DiskWritesLeave, IsBack}
use Rattle.lvm_write.specs.declared.begin.Begun.{Begun}
use Rattle.lvm_write.specs.declared.begin.Begun.TheVariants as begun
use Rattle.lvm_write.specs.Beginning.{Beginning, Part, brought, IsOfParts, PartIsWritten, AllStand}
use Rattle.lvm_write.specs.Ends.{HasNoFault, StopsAt, IsLowestFailed, FailsAtDisk}

-- a write to disks as its answer names it: all went well, or this is the lowest that failed
abbrev pub IsAnswer : Wrote → Begun → Type 0
IsAnswer (wrote.Ended failed buf) (begun.Ended back) = (back ≡ buf) × ((d : ℕ) → IsFalse (has failed d))
IsAnswer (wrote.Ended failed buf) (begun.DiskFailed disk back) = (back ≡ buf) × IsTrue (has failed disk) × ((d : ℕ) → d < disk → IsFalse (has failed d))
IsAnswer (wrote.Ended failed buf) begun.Dark = ⊥
IsAnswer (wrote.Ended failed buf) begun.Stuck = ⊥
IsAnswer wrote.Dark begun.Dark = Unit {0}
IsAnswer wrote.Stuck begun.Stuck = Unit {0}
IsAnswer wrote.Dark _ = ⊥
IsAnswer wrote.Stuck _ = ⊥

-- ---- one write

pub record OneWell (targets : Disks) (PartIsWritten : Device → ℕ → Type 0) (number : ℕ) (old new : Device) (buf : Buffer) : Type 0 where
  pub back : IsBack number old new buf
  pub well : HasNoFault old new
  pub stands : (d : ℕ) → IsTrue (targets d) → PartIsWritten new d

pub record OneBad (targets : Disks) (PartIsWritten : Device → ℕ → Type 0) (number : ℕ) (old new : Device) (disk : ℕ) (buf : Buffer) : Type 0 where
  pub back : IsBack number old new buf
  pub first : IsLowestFailed targets old new disk
  pub tried : (d : ℕ) → IsTrue (targets d) → PartIsWritten new d ⊎ Rose (old.counts.faults d) (new.counts.faults d)

abbrev pub HowOne : Disks → (Device → ℕ → Type 0) → ℕ → ℕ → Device → Device → Begun → Type 0
HowOne targets PartIsWritten number before old new (begun.Ended buf) = OneWell targets PartIsWritten number old new buf
HowOne targets PartIsWritten number before old new (begun.DiskFailed disk buf) = OneBad targets PartIsWritten number old new disk buf
HowOne targets PartIsWritten number before old new begun.Dark = IsDarkened number old new
HowOne targets PartIsWritten number before old new begun.Stuck = IsGivenUp number before old new

-- how a write to these disks ended, which may bring this, and of which this then stands
pub record OneGives (targets : Disks) (P : Plan) (PartIsWritten : Device → ℕ → Type 0) (number before after : ℕ) (old new : Device) (result : Begun) : Type 0 where
  pub does : DiskWritesLeave targets P before after old new
  pub how : HowOne targets PartIsWritten number before old new result

-- ---- several

-- one part was written, from one still shelf to another, and stands
pub record IsStage (b : Beginning) (part : Part) (old new : Device) : Type 0 where
  pub still : new.flights ≡ []
  pub keeps : KeepsShelf b.targets (brought b part) old new
  pub path : Path DeviceStep (IsWriting (brought b part) old) old new
  pub stands : (d : ℕ) → IsTrue (b.targets d) → PartIsWritten b part new d

-- these parts were written, one after another
abbrev pub AreWritten : Beginning → List Part → Device → Device → Type 0
AreWritten b [] old new = new ≡ old
AreWritten b (part ∷ parts) old new = (mid : Device) × IsStage b part old mid × AreWritten b parts mid new

-- some of them were, and then one more was at hand, of which any moment may be the last
abbrev pub AreBegun : Beginning → List Part → Device → Device → Type 0
AreBegun b [] old new = ⊥
AreBegun b (part ∷ parts) old new = Path DeviceStep (IsWriting (brought b part) old) old new ⊎ ((mid : Device) × IsStage b part old mid × AreBegun b parts mid new)

pub record ManyWell (b : Beginning) (order : List Part) (number : ℕ) (old new : Device) (buf : Buffer) : Type 0 where
  pub back : IsBack number old new buf
  pub well : HasNoFault old new
  pub stand : AllStand b order new
  pub done : AreWritten b order old new

abbrev pub HowMany : Beginning → List Part → ℕ → ℕ → Device → Device → Begun → Type 0
HowMany b order number before old new (begun.Ended buf) = ManyWell b order number old new buf
HowMany b order number before old new (begun.DiskFailed disk buf) = FailsAtDisk b order number old new disk buf
HowMany b order number before old new begun.Dark = IsDarkened number old new × StopsAt b order old new (λ hand. Unit {0})
HowMany b order number before old new begun.Stuck = IsGivenUp number before old new × StopsAt b order old new (λ hand. Unit {0})

-- how the parts ended, in this order
pub record ManyGives (b : Beginning) (order : List Part) (number before after : ℕ) (old new : Device) (result : Begun) : Type 0 where
  pub does : DiskWritesLeave b.targets (IsOfParts b order) before after old new
  pub begun : AreBegun b order old new
  pub how : HowMany b order number before old new result
