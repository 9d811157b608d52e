-- What the disks show once all parts of a beginning stand, what of it was written, and which records may follow.
use Rattle.std.specs.Prelude.{◌≡◌, ℕ, ◌^◌, ◌<◌, ◌≤◌, Bool, true, List, length, Some, IsTrue, IsFalse}
use Rattle.lvm_num.specs.declared.record.Kind.TheVariants as kind
use Rattle.lvm_num.specs.declared.record.Stamp.{Stamp}
use Rattle.lvm_num.specs.declared.descriptor.Descriptor.{Descriptor}
use Rattle.lvm_num.specs.declared.status.Status.{Status}
use Rattle.lvm_num.specs.Disks.{Disks}
use Rattle.lvm_num.specs.DescriptorBytes.{descriptor_of}
use Rattle.lvm_num.specs.StatusBytes.{status_of}
use Rattle.lvm_num.specs.Record.{Frames, Stamped, longest_content}
use Rattle.lvm_disk.specs.Device.{Media, Image, Range, Device, image_of}
use Rattle.lvm_kept.specs.Contents.{Contents, contents_of}
use Rattle.lvm_kept.specs.Group.{is_named}
use Rattle.lvm_kept.specs.Plans.{ChangesBy}
use Rattle.lvm_kept.specs.Recovered.{IsRecordRange}
use Rattle.lvm_kept.specs.Torn.{MayWriteAll, written as as_read}
use Rattle.lvm_rec.specs.declared.homes.Homes.{Homes}
use Rattle.lvm_write.specs.Homes.{SparesNewest}
use Rattle.lvm_write.specs.Written.{IsInPlan, KeepsShelf, StandsTold}
use Rattle.lvm_steps.specs.Behind.{StampsBefore, beginning_at}
use Rattle.lvm_write.specs.Beginning.{Beginning, Part, describes, states, new_order, again_order, IsOfParts, AllStand, MayBeginNew, MayBeginAgain}
use Rattle.lvm_write.specs.Ends.{BothFlip}

-- Each target shows the two records, and its note names nothing where the notes were emptied; all else is as it was.
pub record HasBegun (b : Beginning) (forget : Bool) (group : Descriptor) (status : Status) (old new : Contents) : Type 0 where
  pub described : (d : ℕ) → IsTrue (b.targets d) → new.descriptor d ≡ Some (as_read (describes b) group)
  pub stated : (d : ℕ) → IsTrue (b.targets d) → new.status d ≡ Some (as_read (states b) status)
  pub forgotten : IsTrue forget → (d : ℕ) → IsTrue (b.targets d) → (lv track_group : ℕ) → IsFalse (is_named new d lv track_group)
  pub noted : IsFalse forget → (d : ℕ) → new.note d ≡ old.note d
  pub others : (d : ℕ) → IsFalse (b.targets d) → (new.descriptor d ≡ old.descriptor d) × (new.status d ≡ old.status d) × (new.note d ≡ old.note d)
  pub rest : new ≡ record old { descriptor = new.descriptor; status = new.status; note = new.note }

-- So it is after a new group's beginning,
abbrev pub NewIsShown : Type 0
NewIsShown =
    (b : Beginning) (group : Descriptor) (status : Status) (old new : Device) (was is : Media) → b.epoch < 2 ^ 64 → old.media ≡ Some was → new.media ≡ Some is
    → MayBeginNew b group status (image_of old.sizes was) → KeepsShelf b.targets (IsOfParts b new_order) old new → AllStand b new_order new
    → HasBegun b true group status (contents_of (image_of old.sizes was)) (contents_of (image_of new.sizes is))

-- and after that of one that was there.
abbrev pub AgainIsShown : Type 0
AgainIsShown =
    (b : Beginning) (forget : Bool) (group : Descriptor) (status : Status) (disks : Disks) (before : Stamped Status) (old new : Device) (was is : Media) → b.epoch < 2 ^ 64 → old.media ≡ Some was → new.media ≡ Some is
    → MayBeginAgain b forget group status disks before (image_of old.sizes was) → KeepsShelf b.targets (IsOfParts b (again_order forget)) old new → AllStand b (again_order forget) new
    → HasBegun b forget group status (contents_of (image_of old.sizes was)) (contents_of (image_of new.sizes is))

-- ---- which slots come next

-- Where both records stand on a target, its next ones spare the newest again;
abbrev pub TargetsSpareNewest : Type 0
TargetsSpareNewest =
    (b : Beginning) (group : Descriptor) (status : Status) (parts : List Part) (next : Homes) (old new : Device) (was is : Media) → old.media ≡ Some was → new.media ≡ Some is
    → MayWriteAll Descriptor descriptor_of (describes b) group (image_of old.sizes was) → MayWriteAll Status status_of (states b) status (image_of old.sizes was)
    → KeepsShelf b.targets (IsOfParts b parts) old new → BothFlip b.targets b.homes next
    → (d : ℕ) → IsTrue (b.targets d) → StandsTold (describes b) new d → StandsTold (states b) new d → SparesNewest next (image_of new.sizes is) d

-- and on another disk they do where they did.
abbrev pub OthersSpareNewest : Type 0
OthersSpareNewest =
    (b : Beginning) (parts : List Part) (next : Homes) (old new : Device) (was is : Media) → old.media ≡ Some was → new.media ≡ Some is
    → KeepsShelf b.targets (IsOfParts b parts) old new → BothFlip b.targets b.homes next
    → (d : ℕ) → IsFalse (b.targets d) → SparesNewest b.homes (image_of old.sizes was) d → SparesNewest next (image_of new.sizes is) d

-- ---- what is written, whatever became of it

-- it is one of the first two stamps of the session
abbrev pub IsOfBeginning : Beginning → Stamp → Type 0
IsOfBeginning b stamp = (stamp.epoch ≡ b.epoch) × (stamp.seq < 3)

-- Each range that the parts may bring is of a target's note or in one of its slots.
abbrev pub RangesAreOfRecords : Type 0
RangesAreOfRecords =
    (b : Beginning) (parts : List Part) (r : Range) → length b.descriptor.content ≤ longest_content kind.Descriptor → length b.status.content ≤ longest_content kind.Status
    → IsInPlan (IsOfParts b parts) r → IsTrue (b.targets r.disk) × IsRecordRange r

-- Where all stamps are of earlier sessions, they then are of this one's first two records or of earlier ones.
abbrev pub StampsAreOfBeginning : Type 0
StampsAreOfBeginning =
    (b : Beginning) (parts : List Part) (old new : Image) → Frames kind.Descriptor b.descriptor → Frames kind.Status b.status → IsOfBeginning b b.descriptor.stamp → IsOfBeginning b b.status.stamp
    → ChangesBy (IsOfParts b parts) old new → StampsBefore (beginning_at b.epoch) old → StampsBefore (record { epoch = b.epoch; seq = 3 }) new
