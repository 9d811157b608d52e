-- What a varyon does once its records stand: copies are made, then the marks go that aren't needed, and then notes are emptied.
use Rattle.std.specs.Prelude.{◌≡◌, ◌⊎◌, ℕ, ◌≤◌, false, List, length, Option, None, Some, IsTrue, IfSome, All, Result, Ok, Err}
use Rattle.lvm_num.specs.declared.record.Kind.TheVariants as kind
use Rattle.lvm_num.specs.declared.descriptor.Descriptor.{Descriptor}
use Rattle.lvm_num.specs.declared.status.Status.{Status}
use Rattle.lvm_num.specs.Descriptor.{IsValid}
use Rattle.lvm_num.specs.Disks.{Disks, has}
use Rattle.lvm_num.specs.Record.{Stamped, longest_content}
use Rattle.lvm_disk.specs.Counts.{Rose}
use Rattle.lvm_disk.specs.Device.{Device, HasSectors, image_of}
use Rattle.lvm_disk.specs.Paths.{DeviceStep, Path}
use Rattle.lvm_kept.specs.Group.{IsOneOf}
use Rattle.lvm_kept.specs.Torn.{RecordWrite, IsOfNote, IsOfRecord}
use Rattle.lvm_vol.specs.Facts.{Fact}
use Rattle.lvm_steps.specs.Moments.{ImagesKept, StaysKept}
use Rattle.lvm_transfer.specs.Reading.{IsRested, IsCutOff}
use Rattle.lvm_write.specs.Notes.{empty_note_sector, NoteTold}
use Rattle.lvm_write.specs.Written.{HaveRoom, KeepsShelf, StandsTold}
use Rattle.lvm_rec.specs.declared.homes.Homes.{Homes}
use Rattle.lvm_rec.specs.Homes.{Flips}
use Rattle.lvm_write.specs.Beginning.{Beginning, again_order, MayBeginAgain}
use Rattle.lvm_write.specs.Ends.{HasNoFault, IsLowestFailed}
pub use Rattle.lvm_varyon.specs.passed.Recovery.{Recopy}
use Rattle.lvm_varyon.specs.passed.Recovery.{AreApart, IsCopied, IsInOneRun, IsOfCopies, LogsJust, LogsOnly, MayCopy, StopsAtOne, runs_into, sources_and_targets, MayEqualiseBy, second_write}
use Rattle.lvm_varyon.specs.passed.Core.{Cause}
use Rattle.lvm_varyon.specs.passed.CoreRefusedCause as cause
use Rattle.lvm_varyon.specs.declared.plan.Plan.{Plan}
use Rattle.lvm_varyon.specs.Copied.{all_copies}
use Rattle.lvm_varyon.specs.Writing.{AllWritten, OneWriteFailed, WasBrokenOff, IsStillOut}

-- ---- copies, a second status, and then notes

-- What stood in the first run of each copy stands in its second run, each was written once, in the copies' order, and nothing else has changed.
pub record HaveBeenCopied (copies : List Recopy) (old new : Device) : Type 0 where
  pub copied : (one : Recopy) → IsOneOf copies one → IsCopied old new one
  pub keeps : KeepsShelf (sources_and_targets copies) (IsOfCopies old copies) old new
  pub writes : LogsJust (runs_into copies) old.wrote new.wrote
  pub ranges : LogsOnly (IsInOneRun copies) old.wrote new.wrote
  pub well : HasNoFault old new

-- the notes of these disks may have been emptied, and nothing else has changed
abbrev pub OnlyForgets : Disks → ℕ → Device → Device → Type 0
OnlyForgets targets epoch old new = KeepsShelf targets (IsOfNote targets (empty_note_sector epoch)) old new

-- All of a record stands on its targets, whose next record of the kind goes to the other slot; no transfer failed and nothing else has changed.
pub record IsPut (w : RecordWrite) (first homes : Homes) (old new : Device) : Type 0 where
  pub stands : (d : ℕ) → IsTrue (w.targets d) → StandsTold w new d
  pub keeps : KeepsShelf w.targets (IsOfRecord w) old new
  pub flips : Flips w.kind w.targets first homes
  pub well : HasNoFault old new
  pub rested : IsRested old new

-- So it is of the second status, under sequence 3; where none is written nothing is done.
abbrev pub IsStated : Option (List ℕ) → ℕ → Disks → Homes → Homes → Device → Device → Type 0
IsStated None epoch targets first homes old new = (new ≡ old) × (homes ≡ first)
IsStated (Some bytes) epoch targets first homes old new = IsPut (second_write epoch bytes targets first) first homes old new

-- The copies were made, then the second status stands, if there is one, and then the notes were emptied.
pub record MakesEqual (copies : List Recopy) (second : Option (List ℕ)) (epoch : ℕ) (targets : Disks) (first homes : Homes) (old new : Device) : Type 0 where
  pub copied : Device
  pub made : HaveBeenCopied copies old copied
  pub whole : HasSectors copied
  pub stated : Device
  pub states : IsStated second epoch targets first homes copied stated
  pub only : OnlyForgets targets epoch stated new
  pub forgotten : (d : ℕ) → IsTrue (targets d) → NoteTold (empty_note_sector epoch) new d
  pub well : HasNoFault stated new
  pub rested : IsRested old new

-- All copies were made, and then it stopped while the second status was written.
pub record StopsStating (copies : List Recopy) (second : Option (List ℕ)) (epoch : ℕ) (targets : Disks) (first : Homes) (old new : Device) (AtStatus : RecordWrite → Device → Type 0) : Type 0 where
  pub bytes : List ℕ
  pub is : second ≡ Some bytes
  pub copied : Device
  pub made : HaveBeenCopied copies old copied
  pub only : KeepsShelf targets (IsOfRecord (second_write epoch bytes targets first)) copied new
  pub how : AtStatus (second_write epoch bytes targets first) copied

-- All copies were made and the second status stands, if there is one, and then it stopped while notes were emptied.
pub record StopsForgetting (copies : List Recopy) (second : Option (List ℕ)) (epoch : ℕ) (targets : Disks) (first : Homes) (old new : Device) (AtNotes : Device → Type 0) : Type 0 where
  pub copied : Device
  pub made : HaveBeenCopied copies old copied
  pub homes : Homes
  pub stated : Device
  pub states : IsStated second epoch targets first homes copied stated
  pub only : OnlyForgets targets epoch stated new
  pub how : AtNotes stated

-- It stopped while copies were made, while the second status was written, or while notes were emptied.
pub record StopsEqualling (copies : List Recopy) (second : Option (List ℕ)) (epoch : ℕ) (targets : Disks) (first : Homes) (old new : Device) (AtCopy : Type 0) (AtStatus : RecordWrite → Device → Type 0) (AtNotes : Device → Type 0) : Type 0 where
  pub when : (KeepsShelf (sources_and_targets copies) (IsOfCopies old copies) old new × AtCopy)
      ⊎ StopsStating copies second epoch targets first old new AtStatus ⊎ StopsForgetting copies second epoch targets first old new AtNotes

-- A transfer failed of a disk from which or to which a copy is made, and of no other disk; those before it were made, and those behind it weren't begun.
pub record CopyFailed (copies : List Recopy) (disk : ℕ) (old new : Device) : Type 0 where
  pub its : IsTrue (sources_and_targets copies disk)
  pub order : StopsAtOne copies old new (λ d. disk ≡ d)
  pub rose : Rose (old.counts.faults disk) (new.counts.faults disk)
  pub alone : (d : ℕ) → (d ≡ disk → ⊥) → new.counts.faults d ≡ old.counts.faults d
  pub rested : IsRested old new

-- A record wasn't written to some of its targets; this is the lowest disk of these, and it was tried on all.
pub record PutFailed (w : RecordWrite) (disk : ℕ) (old new : Device) : Type 0 where
  pub first : IsLowestFailed w.targets old new disk
  pub tried : (d : ℕ) → IsTrue (w.targets d) → StandsTold w new d ⊎ Rose (old.counts.faults d) (new.counts.faults d)
  pub rested : IsRested old new

-- Some notes weren't written; this is the lowest disk of these, and it was tried on all.
pub record ForgettingFailed (epoch : ℕ) (targets : Disks) (disk : ℕ) (old new : Device) : Type 0 where
  pub first : IsLowestFailed targets old new disk
  pub tried : (d : ℕ) → IsTrue (targets d) → NoteTold (empty_note_sector epoch) new d ⊎ Rose (old.counts.faults d) (new.counts.faults d)
  pub rested : IsRested old new

-- whatever it was at
abbrev pub AnyStop : List Recopy → Option (List ℕ) → ℕ → Disks → Homes → Device → Device → Type 0
AnyStop copies second epoch targets first old new = StopsEqualling copies second epoch targets first old new (StopsAtOne copies old new (λ d. Unit {0})) (λ w copied. Unit {0}) (λ stated. Unit {0})

-- a transfer of this disk failed
abbrev pub StopsAtDisk : ℕ → List Recopy → Option (List ℕ) → ℕ → Disks → Homes → Device → Device → Type 0
StopsAtDisk disk copies second epoch targets first old new =
    StopsEqualling copies second epoch targets first old new (CopyFailed copies disk old new) (λ w copied. PutFailed w disk copied new) (λ stated. ForgettingFailed epoch targets disk stated new)

module _ (patience : ℕ) (copies : List Recopy) (second : Option (List ℕ)) (epoch : ℕ) (targets : Disks) (first : Homes) (old new : Device) where
  abbrev pub EqualGives : Result Homes Cause → Type 0
  EqualGives (Ok homes) = MakesEqual copies second epoch targets first homes old new
  EqualGives (Err (cause.DiskFailed disk)) = StopsAtDisk disk copies second epoch targets first old new
  EqualGives (Err cause.Dark) = IsCutOff old new × AnyStop copies second epoch targets first old new
  EqualGives (Err cause.Stuck) = IsStillOut patience old new × AnyStop copies second epoch targets first old new
  EqualGives (Err _) = ⊥

-- ---- behind the records

-- All records stand, and then the copies were made, the marks went that aren't needed, and the notes were emptied.
pub record IsEqualled (b : Beginning) (second : Option (List ℕ)) (homes : Homes) (copies : List Recopy) (read new : Device) : Type 0 where
  pub restated : Device
  pub first : Homes
  pub written : AllWritten b (again_order false) first read restated
  pub equal : MakesEqual copies second b.epoch b.targets first homes restated new

-- all records stand, and then it stopped so
pub record StopsBehind (b : Beginning) (read : Device) (Stops : Homes → Device → Type 0) : Type 0 where
  pub restated : Device
  pub homes : Homes
  pub written : AllWritten b (again_order false) homes read restated
  pub stops : Stops homes restated

-- a transfer of this disk failed while records were written, copies made, the second status written or notes emptied
abbrev pub OneFailed : Beginning → Option (List ℕ) → List Recopy → ℕ → Device → Device → Type 0
OneFailed b second copies disk read new = OneWriteFailed b (again_order false) disk read new
    ⊎ StopsBehind b read (λ homes mid. StopsAtDisk disk copies second b.epoch b.targets homes mid new)

-- one of them was broken off
abbrev pub BrokeOff : Beginning → Option (List ℕ) → List Recopy → Device → Device → Type 0
BrokeOff b second copies read new = WasBrokenOff b (again_order false) read new ⊎ StopsBehind b read (λ homes mid. AnyStop copies second b.epoch b.targets homes mid new)

module _ (patience : ℕ) (b : Beginning) (copies : List Recopy) (second : Option (List ℕ)) (read new : Device) where
  abbrev pub AllWritesGive : Result Homes Cause → Type 0
  AllWritesGive (Ok homes) = IsEqualled b second homes copies read new
  AllWritesGive (Err (cause.DiskFailed disk)) = OneFailed b second copies disk read new
  AllWritesGive (Err cause.Dark) = IsCutOff read new × BrokeOff b second copies read new
  AllWritesGive (Err cause.Stuck) = IsStillOut patience read new × BrokeOff b second copies read new
  AllWritesGive (Err _) = ⊥

-- ---- what lets it be done

-- the copies lie on their disks, apart, the second status fits, if there is one, and the targets have room for records
pub record MayMakeEqual (old : Device) (plan : Plan) : Type 0 where
  pub valid : IsValid plan.parts.descriptor
  pub ranges : All (MayCopy old.sizes) (all_copies plan)
  pub apart : AreApart (all_copies plan)
  pub fits : IfSome plan.second (λ bytes. length bytes ≤ longest_content kind.Status)
  pub targets : HaveRoom old (has plan.targets)

-- and so do the records
pub record MayWritePlan (old : Device) (plan : Plan) : Type 0 where
  pub descriptor : length plan.descriptor ≤ longest_content kind.Descriptor
  pub status : length plan.status ≤ longest_content kind.Status
  pub equal : MayMakeEqual old plan

-- What was kept is kept at each moment, where the records may be written and, wherever they all stand, the copies be made and the second status be written.
abbrev pub AllWritesKeep : Beginning → List Recopy → Option (List ℕ) → Device → Device → Type 0
AllWritesKeep b copies second old new =
    (group : Descriptor) (status : Status) (disks : Disks) (was : Stamped Status) → IfSome old.media (λ media. MayBeginAgain b false group status disks was (image_of old.sizes media))
    → ((homes : Homes) (restated : Device) → AllWritten b (again_order false) homes old restated
    → IfSome restated.media (λ media. (facts : List Fact) → ImagesKept restated facts → MayEqualiseBy copies second b.epoch b.targets homes group status b.targets restated))
    → Path DeviceStep (StaysKept old) old new
