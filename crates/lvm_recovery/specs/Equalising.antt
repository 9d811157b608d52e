-- The copies of a group that comes on; then its second status, where one is written; and then the emptying of its notes.
use Rattle.std.specs.Prelude.{◌≡◌, ◌⊎◌, ℕ, List, Option, Some, None, IsTrue, IfSome}
use Rattle.lvm_num.specs.declared.descriptor.Descriptor.{Descriptor}
use Rattle.lvm_num.specs.declared.record.Kind.TheVariants as kind
use Rattle.lvm_num.specs.declared.status.Status.{Status}
use Rattle.lvm_num.specs.Buffer.{Buffer}
use Rattle.lvm_num.specs.Disks.{Disks}
use Rattle.lvm_disk.specs.Device.{Device, HasSectors, Image, IsWholeImage, image_of}
use Rattle.lvm_disk.specs.Paths.{DeviceStep, Path}
use Rattle.lvm_kept.specs.passed.Vol.{Fact}
use Rattle.lvm_kept.specs.Contents.{contents_of}
use Rattle.lvm_kept.specs.Plans.{ChangesBy}
use Rattle.lvm_kept.specs.Torn.{RecordWrite, IsOfRecord, IsOfNote}
use Rattle.lvm_rec.specs.declared.homes.Homes.{Homes}
use Rattle.lvm_rec.specs.Homes.{Flips}
use Rattle.lvm_recover.specs.passed.Steps.{ImagesKept, StaysKept}
use Rattle.lvm_write.specs.Ends.{IfBegun}
use Rattle.lvm_write.specs.Notes.{empty_note_sector, NoteTold}
use Rattle.lvm_write.specs.Written.{write_of, StandsTold}
use Rattle.lvm_write.specs.declared.begin.Begun.{Begun}
use Rattle.lvm_write.specs.declared.begin.Begun.TheVariants as begun
use Rattle.lvm_write.specs.Runs.{OneGives}
use Rattle.lvm_recover.specs.Keeping.{MayRecover}
use Rattle.lvm_tidying.specs.Moments.{MayCleanBy}
use Rattle.lvm_recovery.specs.declared.copying.Recopy.{Recopy}
use Rattle.lvm_recovery.specs.Copying.{IsOfCopies, AllGive}
use Rattle.lvm_recovery.specs.Planned.{ArePlanned}

-- the write of a second status with these bytes: under sequence 3 of the epoch
abbrev pub second_write : ℕ → List ℕ → Disks → Homes → RecordWrite
second_write epoch bytes targets homes = write_of kind.Status (record { stamp = record { epoch = epoch; seq = 3 }; content = bytes }) targets homes

-- None is written: nothing is done.
pub record StaysFirst (first homes : Homes) (number before after : ℕ) (old new : Device) (result : Begun) : Type 0 where
  pub buf : Buffer
  pub ended : result ≡ begun.Ended buf
  pub number_is : buf.number ≡ number
  pub same : new ≡ old
  pub same_homes : homes ≡ first
  pub spends : after ≡ before

-- One is written, and where that went well its slots that come next are the other ones.
pub record SecondGives (w : RecordWrite) (first homes : Homes) (number before after : ℕ) (old new : Device) (result : Begun) : Type 0 where
  pub gives : OneGives w.targets (IsOfRecord w) (StandsTold w) number before after old new result
  pub flips : IfBegun result (λ back. Flips w.kind w.targets first homes)

abbrev pub StatesSecond : Option (List ℕ) → ℕ → Disks → Homes → Homes → ℕ → ℕ → ℕ → Device → Device → Begun → Type 0
StatesSecond None epoch targets first homes number before after old new result = StaysFirst first homes number before after old new result
StatesSecond (Some bytes) epoch targets first homes number before after old new result = SecondGives (second_write epoch bytes targets first) first homes number before after old new result

-- ---- all of it

-- all copies were made, the second status stands, if there is one, and then the notes were emptied, or not all of them
pub record WentOn (copies : List Recopy) (second : Option (List ℕ)) (epoch : ℕ) (targets : Disks) (first homes : Homes) (number before after : ℕ) (old new : Device) (result : Begun) : Type 0 where
  pub mid : Device
  pub between : ℕ
  pub buf : Buffer
  pub copied : AllGive copies number before between old mid (begun.Ended buf)
  pub whole : HasSectors mid
  pub stated : Device
  pub then_left : ℕ
  pub back : Buffer
  pub states : StatesSecond second epoch targets first homes buf.number between then_left mid stated (begun.Ended back)
  pub emptied : OneGives targets (IsOfNote targets (empty_note_sector epoch)) (NoteTold (empty_note_sector epoch)) back.number then_left after stated new result

-- all copies were made, but the second status wasn't written everywhere
pub record StoppedStating (copies : List Recopy) (second : Option (List ℕ)) (epoch : ℕ) (targets : Disks) (first homes : Homes) (number before after : ℕ) (old new : Device) (result : Begun) : Type 0 where
  pub stopped : (buf : Buffer) → result ≡ begun.Ended buf → ⊥
  pub mid : Device
  pub between : ℕ
  pub buf : Buffer
  pub copied : AllGive copies number before between old mid (begun.Ended buf)
  pub whole : HasSectors mid
  pub states : StatesSecond second epoch targets first homes buf.number between after mid new result

-- not all copies were made
pub record StoppedCopying (copies : List Recopy) (number before after : ℕ) (old new : Device) (result : Begun) : Type 0 where
  pub stopped : (buf : Buffer) → result ≡ begun.Ended buf → ⊥
  pub copied : AllGive copies number before after old new result

abbrev pub EqualiseGives : List Recopy → Option (List ℕ) → ℕ → Disks → Homes → Homes → ℕ → ℕ → ℕ → Device → Device → Begun → Type 0
EqualiseGives copies second epoch targets first homes number before after old new result =
    WentOn copies second epoch targets first homes number before after old new result
    ⊎ StoppedStating copies second epoch targets first homes number before after old new result
    ⊎ StoppedCopying copies number before after old new result

-- ---- what lets it be done

-- What lets this be done of a group: its records show what is committed to the members that are there, and just the copies that make these equal are made.
pub record MayEqualise (copies : List Recopy) (targets : Disks) (group : Descriptor) (status : Status) (there : Disks) (device : Device) : Type 0 where
  pub may : MayRecover group status there device
  pub planned : ArePlanned (contents_of (image_of device.sizes may.media)) group (Some may.shows.stands) there copies
  pub targets_there : (d : ℕ) → IsTrue (targets d) → IsTrue (there d)

-- What lets this second status be written, whatever the copies have brought: it is the one in which the marks are gone that aren't needed, and it goes to all members that are there.
pub record MayState (copies : List Recopy) (w : RecordWrite) (group : Descriptor) (status : Status) (there : Disks) (device : Device) (may : MayRecover group status there device) : Type 0 where
  pub clean : Status
  pub all : (d : ℕ) → IsTrue (there d) → IsTrue (w.targets d)
  pub by : (copied : Image) → IsWholeImage copied → ChangesBy (IsOfCopies device copies) (image_of device.sizes may.media) copied → MayCleanBy group status there device may copied w clean

abbrev pub MayStateSecond : List Recopy → Option (List ℕ) → ℕ → Disks → Homes → (group : Descriptor) → (status : Status) → (there : Disks) → (device : Device) → MayRecover group status there device → Type 0
MayStateSecond copies None epoch targets first group status there device may = Unit {0}
MayStateSecond copies (Some bytes) epoch targets first group status there device may = MayState copies (second_write epoch bytes targets first) group status there device may

abbrev pub MayEqualiseBy : List Recopy → Option (List ℕ) → ℕ → Disks → Homes → Descriptor → Status → Disks → Device → Type 0
MayEqualiseBy copies second epoch targets first group status there device =
    (it : MayEqualise copies targets group status there device) × MayStateSecond copies second epoch targets first group status there device it.may

-- then what was kept is kept at each moment of it, whatever becomes of it; that it may be done may follow from what was kept
abbrev pub EqualisedStaysKept : List Recopy → Option (List ℕ) → ℕ → Disks → Homes → Device → Device → Type 0
EqualisedStaysKept copies second epoch targets first old new =
    (group : Descriptor) (status : Status) (there : Disks)
    → IfSome old.media (λ media. (facts : List Fact) → ImagesKept old facts → MayEqualiseBy copies second epoch targets first group status there old) → Path DeviceStep (StaysKept old) old new
