-- What a varyon writes once the shelf has been read.
use Rattle.std.specs.Prelude.{◌≡◌, ℕ, true, [], ◌∷◌, List, IsTrue, IfSome}
use Rattle.lvm_num.specs.declared.descriptor.Descriptor.{Descriptor}
use Rattle.lvm_num.specs.declared.status.Status.{Status}
use Rattle.lvm_num.specs.Disks.{Disks}
use Rattle.lvm_num.specs.DescriptorBytes.{descriptor_bytes}
use Rattle.lvm_num.specs.StatusBytes.{status_bytes}
use Rattle.lvm_disk.specs.Counts.{RoseBy}
use Rattle.lvm_disk.specs.Device.{Device, Flight, image_of}
use Rattle.lvm_rec.specs.declared.homes.Homes.{Homes}
use Rattle.lvm_write.specs.Homes.{SparesNewest}
use Rattle.lvm_write.specs.Written.{KeepsShelf}
use Rattle.lvm_transfer.specs.Reading.{IsUnwritten, IsRested}
use Rattle.lvm_write.specs.Beginning.{Beginning, Part, again_beginning, IsOfParts, AllStand}
use Rattle.lvm_write.specs.Ends.{BothFlip, HasNoFault, StopsAt, IsLowestFailed, WasTriedOnTargets}

-- the records that go to the members that answer: the descriptor under sequence 1 of the moment, the status under sequence 2
abbrev pub beginning : ℕ → Descriptor → Status → Disks → Homes → Beginning
beginning moment group next targets homes = again_beginning moment (descriptor_bytes group) (status_bytes next) targets homes

-- The shelf was read, and then this was written or tried, from one moment to another, each record to the slot that doesn't hold the newest.
pub record Writes (old : Device) (moment : ℕ) (group : Descriptor) (next : Status) (targets : Disks) (How : Beginning → Device → Type 0) : Type 0 where
  pub read : Device
  pub unwritten : IsUnwritten old read
  pub rested : IsRested old read
  pub homes : Homes
  pub spared : IfSome old.media (λ media. (d : ℕ) → IsTrue (targets d) → SparesNewest homes (image_of old.sizes media) d)
  pub how : How (beginning moment group next targets homes) read

-- ---- how they ended

-- all stand, no transfer failed, nothing else changed, and the slots that come next are the other ones
pub record AllWritten (b : Beginning) (parts : List Part) (homes : Homes) (read new : Device) : Type 0 where
  pub stand : AllStand b parts new
  pub well : HasNoFault read new
  pub keeps : KeepsShelf b.targets (IsOfParts b parts) read new
  pub flips : BothFlip b.targets b.homes homes
  pub rested : IsRested read new

-- One of them failed on some disks, of which this is the lowest; it was tried on all, and those behind it weren't begun.
pub record OneWriteFailed (b : Beginning) (parts : List Part) (disk : ℕ) (read new : Device) : Type 0 where
  pub first : IsLowestFailed b.targets read new disk
  pub stops : StopsAt b parts read new (WasTriedOnTargets b read new)
  pub rested : IsRested read new

-- one of them was broken off
abbrev pub WasBrokenOff : Beginning → List Part → Device → Device → Type 0
WasBrokenOff b parts read new = StopsAt b parts read new (λ hand. Unit {0})

-- One transfer is out, of which nothing was heard until the patience had run out; the power was on all the time.
pub record IsStillOut (patience : ℕ) (old new : Device) : Type 0 where
  pub flight : Flight
  pub out : new.flights ≡ flight ∷ []
  pub freed : new.freed ≡ []
  pub power : new.power ≡ true
  pub cuts : new.counts.cuts ≡ old.counts.cuts
  pub waited : RoseBy patience old.counts.waits new.counts.waits
