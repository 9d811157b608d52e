-- How the writes of a beginning end.
use Rattle.std.specs.Prelude.{◌≡◌, ◌⊎◌, ℕ, ◌<◌, ◌++◌, List, [], ◌∷◌, not, if◌then◌else◌, IsTrue}
use Rattle.lvm_num.specs.declared.record.Kind.{Kind}
use Rattle.lvm_num.specs.Buffer.{Buffer}
use Rattle.lvm_num.specs.Disks.{Disks}
use Rattle.lvm_disk.specs.Counts.{Rose}
use Rattle.lvm_disk.specs.Device.{Device}
use Rattle.lvm_rec.specs.declared.homes.Homes.{Homes}
use Rattle.lvm_rec.specs.Homes.{second_slots}
use Rattle.lvm_write.specs.Written.{KeepsShelf, IsDarkened, IsGivenUp}
use Rattle.lvm_write.specs.Writes.{IsBack}
use Rattle.lvm_write.specs.Beginning.{Beginning, Part, IsOfParts, PartIsWritten, AllStand}
use Rattle.lvm_write.specs.declared.begin.Begun.{Begun}
use Rattle.lvm_write.specs.declared.begin.Begun.TheVariants as begun

-- ---- the answer

abbrev pub IfBegun : Begun → (Buffer → Type 0) → Type 0
IfBegun (begun.Ended buf) P = P buf
IfBegun (begun.DiskFailed disk buf) P = Unit {0}
IfBegun begun.Dark P = Unit {0}
IfBegun begun.Stuck P = Unit {0}

-- ---- what holds at them

-- both kinds' next slots are the other ones on these disks, and elsewhere what they were
abbrev pub BothFlip : Disks → Homes → Homes → Type 0
BothFlip targets old new = (kind : Kind) (d : ℕ) → second_slots kind new d ≡ (if targets d then not (second_slots kind old d) else second_slots kind old d)

-- no transfer failed
abbrev pub HasNoFault : Device → Device → Type 0
HasNoFault old new = (d : ℕ) → new.counts.faults d ≡ old.counts.faults d

-- Where the writes stopped: those before one of them stand on each target, that one was at hand, and those behind it weren't begun.
pub record StopsAt (b : Beginning) (order : List Part) (old new : Device) (AtHand : Part → Type 0) : Type 0 where
  pub before : List Part
  pub hand : Part
  pub behind : List Part
  pub is : order ≡ before ++ hand ∷ behind
  pub stand : AllStand b before new
  pub only : KeepsShelf b.targets (IsOfParts b (before ++ hand ∷ [])) old new
  pub at_hand : AtHand hand

-- the disk is the lowest target at which a transfer failed
pub record IsLowestFailed (targets : Disks) (old new : Device) (disk : ℕ) : Type 0 where
  pub target : IsTrue (targets disk)
  pub rose : Rose (old.counts.faults disk) (new.counts.faults disk)
  pub lowest : (d : ℕ) → d < disk → new.counts.faults d ≡ old.counts.faults d

-- the part was tried on each target: it stands there, or a transfer failed there
abbrev pub WasTriedOnTargets : Beginning → Device → Device → Part → Type 0
WasTriedOnTargets b old new part = (d : ℕ) → IsTrue (b.targets d) → PartIsWritten b part new d ⊎ Rose (old.counts.faults d) (new.counts.faults d)

-- ---- how they end

-- all of them stand on each target, no transfer failed, and the slots that come next are the other ones there
pub record BeginsWell (b : Beginning) (order : List Part) (number : ℕ) (next : Homes) (old new : Device) (buf : Buffer) : Type 0 where
  pub back : IsBack number old new buf
  pub stand : AllStand b order new
  pub well : HasNoFault old new
  pub flips : BothFlip b.targets b.homes next

-- One of them failed on some disks, of which this is the lowest; it was tried on all, and those behind it weren't begun.
pub record FailsAtDisk (b : Beginning) (order : List Part) (number : ℕ) (old new : Device) (disk : ℕ) (buf : Buffer) : Type 0 where
  pub back : IsBack number old new buf
  pub first : IsLowestFailed b.targets old new disk
  pub stop : StopsAt b order old new (WasTriedOnTargets b old new)

-- how the writes end, by the answer, with the slots that come next: well, at a disk that failed, or broken off
abbrev pub BeginEnds : Beginning → List Part → ℕ → ℕ → Homes → Device → Device → Begun → Type 0
BeginEnds b order number before next old new (begun.Ended buf) = BeginsWell b order number next old new buf
BeginEnds b order number before next old new (begun.DiskFailed disk buf) = FailsAtDisk b order number old new disk buf
BeginEnds b order number before next old new begun.Dark = IsDarkened number old new × StopsAt b order old new (λ hand. Unit {0})
BeginEnds b order number before next old new begun.Stuck = IsGivenUp number before old new × StopsAt b order old new (λ hand. Unit {0})
