-- Runs of 256 sectors that are copied between disks.
use Rattle.std.specs.Prelude.{◌≡◌, ◌⊎◌, ℕ, ◌+◌, ◌<◌, ◌≤◌, ◌==◌, ◌||◌, Bool, true, false, List, [], ◌∷◌, length, map, Some, slice_get, IsTrue, IfSome, All, Option, None, ◌++◌}
use Rattle.std.specs.List.{list_any}
use Rattle.lvm_num.specs.declared.place.Place.{Place}
use Rattle.lvm_num.specs.Buffer.{Buffer, Sector}
use Rattle.lvm_num.specs.Disks.{Disks}
use Rattle.lvm_num.specs.Geometry.{data_start}
use Rattle.lvm_disk.specs.Counts.{Rose, RoseBy}
use Rattle.lvm_disk.specs.Device.{Media, Range, Flight, Device}
use Rattle.lvm_disk.specs.Steps.{BothTold}
use Rattle.lvm_kept.specs.Group.{IsOneOf}
use Rattle.lvm_transfer.specs.Reading.{IsCutOff}
use Rattle.lvm_write.specs.declared.begin.Begun.{Begun}
use Rattle.lvm_write.specs.declared.begin.Begun.TheVariants as begun
use Rattle.lvm_write.specs.Ends.{HasNoFault}
use Rattle.lvm_write.specs.Writes.{DiskWritesLeave, IsBack}
use Rattle.lvm_recovery.specs.declared.copying.Recopy.{Recopy}

-- 256 sectors of a disk's data from here on are on a shelf with disks of these sizes
pub record MayTransfer (sizes : List ℕ) (place : Place) : Type 0 where
  pub there : place.disk < length sizes
  pub data_there : data_start ≤ place.sector
  pub within : (size : ℕ) → slice_get sizes place.disk ≡ Some size → place.sector + 256 ≤ size

pub record MayCopy (sizes : List ℕ) (one : Recopy) : Type 0 where
  pub from : MayTransfer sizes one.from
  pub into : MayTransfer sizes one.into

-- sector s of disk d is sector i of the 256 from this place on
pub record IsAt (place : Place) (d s i : ℕ) : Type 0 where
  pub disk : d ≡ place.disk
  pub inside : i < 256
  pub sector : s ≡ place.sector + i

-- One transfer is out, of which nothing was heard until the patience had run out; the power was on all the time.
pub record IsLeftOut (number patience : ℕ) (old new : Device) : Type 0 where
  pub flight : Flight
  pub out : new.flights ≡ flight ∷ []
  pub buffer : flight.buf.number ≡ number
  pub freed : new.freed ≡ []
  pub power : new.power ≡ true
  pub cuts : new.counts.cuts ≡ old.counts.cuts
  pub waited : RoseBy patience old.counts.waits new.counts.waits

-- a transfer of this disk failed, and no other; the buffer is back
pub record HasFailedAlone (number : ℕ) (old new : Device) (disk : ℕ) (buf : Buffer) : Type 0 where
  pub back : IsBack number old new buf
  pub rose : Rose (old.counts.faults disk) (new.counts.faults disk)
  pub alone : (d : ℕ) → (d ≡ disk → ⊥) → new.counts.faults d ≡ old.counts.faults d

-- a buffer has 256 sectors
abbrev pub IsFull : Buffer → Type 0
IsFull buf = length buf.sectors ≡ 256

-- ---- ranges that are told

-- the range has sectors, and they lie among the 256 from this place on
pub record IsInRun (place : Place) (range : Range) : Type 0 where
  pub disk : range.disk ≡ place.disk
  pub low : place.sector ≤ range.first
  pub some : 1 ≤ range.count
  pub high : range.first + range.count ≤ place.sector + 256

-- The ranges that are told are those that were told before and others of which this holds; or they are told no more.
abbrev pub LogsOnly : (Range → Type 0) → Option (List Range) → Option (List Range) → Type 0
LogsOnly Q None None = Unit {0}
LogsOnly Q None (Some new) = ⊥
LogsOnly Q (Some old) None = Unit {0}
LogsOnly Q (Some old) (Some new) = (more : List Range) × (new ≡ old ++ more) × All Q more

-- Just these ranges were told beside those that were told before, in this order; or they are told no more.
abbrev pub LogsJust : List Range → Option (List Range) → Option (List Range) → Type 0
LogsJust more None None = Unit {0}
LogsJust more None (Some new) = ⊥
LogsJust more (Some old) None = Unit {0}
LogsJust more (Some old) (Some new) = new ≡ old ++ more

-- the 256 sectors from this place on
abbrev pub run_at : Place → Range
run_at place = record { disk = place.disk; first = place.sector; count = 256 }

-- ---- one transfer

-- what it may bring: a read nothing, a write what the buffer holds
pub record IsOfStep (write : Bool) (place : Place) (buf : Buffer) (d s : ℕ) (value : Sector) : Type 0 where
  pub writes : write ≡ true
  pub i : ℕ
  pub at : IsAt place d s i
  pub is : slice_get buf.sectors i ≡ Some value

-- the buffer holds what stands in these sectors of the media
abbrev pub HoldsRun : Media → Place → Buffer → Type 0
HoldsRun media place buf = (i : ℕ) → i < 256 → slice_get buf.sectors i ≡ Some (media place.disk (place.sector + i))

-- and these sectors hold what the buffer does
abbrev pub RunHolds : Media → Place → Buffer → Type 0
RunHolds media place buf = (i : ℕ) (value : Sector) → i < 256 → slice_get buf.sectors i ≡ Some value → media place.disk (place.sector + i) ≡ value

-- what a transfer that ended well has moved
abbrev pub HasMoved : Bool → Place → Buffer → Buffer → Device → Device → Type 0
HasMoved true place buf back old new = IfSome new.media (λ media. RunHolds media place buf)
HasMoved false place buf back old new = IfSome old.media (λ media. HoldsRun media place back)

pub record StepWell (write : Bool) (place : Place) (buf : Buffer) (old new : Device) (back : Buffer) : Type 0 where
  pub rested : IsBack buf.number old new back
  pub full : IsFull back
  pub well : HasNoFault old new
  pub moved : HasMoved write place buf back old new

abbrev pub HowStep : Bool → Place → Buffer → ℕ → Device → Device → Begun → Type 0
HowStep write place buf before old new (begun.Ended back) = StepWell write place buf old new back
HowStep write place buf before old new (begun.DiskFailed disk back) = (disk ≡ place.disk) × HasFailedAlone buf.number old new disk back
HowStep write place buf before old new begun.Dark = IsCutOff old new
HowStep write place buf before old new begun.Stuck = IsLeftOut buf.number before old new

-- the ranges that it writes
abbrev pub step_ranges : Bool → Place → List Range
step_ranges true place = run_at place ∷ []
step_ranges false place = []

-- it wrote these, or the power was cut before it was started
abbrev pub StepWrites : Bool → Place → Option (List Range) → Option (List Range) → Begun → Type 0
StepWrites write place old new begun.Dark = LogsJust [] old new ⊎ LogsJust (step_ranges write place) old new
StepWrites write place old new other = LogsJust (step_ranges write place) old new

pub record StepGives (write : Bool) (place : Place) (buf : Buffer) (before after : ℕ) (old new : Device) (result : Begun) : Type 0 where
  pub does : DiskWritesLeave (λ d. d == place.disk) (IsOfStep write place buf) before after old new
  pub writes : StepWrites write place old.wrote new.wrote result
  pub how : HowStep write place buf before old new result

-- ---- one copy

-- the disks of a copy
abbrev pub is_of_copy : Recopy → Disks
is_of_copy one d = d == one.from.disk || d == one.into.disk

-- What it may bring: to each sector of the second run what stood at its place in the first, where the media is told.
pub record IsOfCopy (old : Device) (one : Recopy) (d s : ℕ) (value : Sector) : Type 0 where
  pub i : ℕ
  pub at : IsAt one.into d s i
  pub is : IfSome old.media (λ media. value ≡ media one.from.disk (one.from.sector + i))

-- it stands there, where the media is told
abbrev pub IsCopied : Device → Device → Recopy → Type 0
IsCopied old new one = BothTold old.media new.media (λ was is. (i : ℕ) → i < 256 → is one.into.disk (one.into.sector + i) ≡ was one.from.disk (one.from.sector + i))

pub record CopyWell (one : Recopy) (number : ℕ) (old new : Device) (buf : Buffer) : Type 0 where
  pub back : IsBack number old new buf
  pub full : IsFull buf
  pub well : HasNoFault old new
  pub copied : IsCopied old new one

abbrev pub HowCopy : Recopy → ℕ → ℕ → Device → Device → Begun → Type 0
HowCopy one number before old new (begun.Ended buf) = CopyWell one number old new buf
HowCopy one number before old new (begun.DiskFailed disk buf) = IsTrue (is_of_copy one disk) × HasFailedAlone number old new disk buf
HowCopy one number before old new begun.Dark = IsCutOff old new
HowCopy one number before old new begun.Stuck = IsLeftOut number before old new

-- Behind writes of these ranges the copy was begun and stopped: at the disk that it reads, or once it was written, at the other.
abbrev pub StopsInCopy : List Range → Recopy → Option (List Range) → Option (List Range) → (ℕ → Type 0) → Type 0
StopsInCopy front one old new At = (LogsJust front old new × At one.from.disk) ⊎ (LogsJust (front ++ run_at one.into ∷ []) old new × At one.into.disk)

-- what it wrote: its second run, once, where it ended well
abbrev pub CopyWrites : Recopy → Option (List Range) → Option (List Range) → Begun → Type 0
CopyWrites one old new (begun.Ended buf) = LogsJust (run_at one.into ∷ []) old new
CopyWrites one old new (begun.DiskFailed disk buf) = StopsInCopy [] one old new (λ d. disk ≡ d)
CopyWrites one old new begun.Dark = StopsInCopy [] one old new (λ d. Unit {0})
CopyWrites one old new begun.Stuck = StopsInCopy [] one old new (λ d. Unit {0})

pub record CopyGives (one : Recopy) (number before after : ℕ) (old new : Device) (result : Begun) : Type 0 where
  pub does : DiskWritesLeave (is_of_copy one) (IsOfCopy old one) before after old new
  pub writes : CopyWrites one old.wrote new.wrote result
  pub ranges : LogsOnly (IsInRun one.into) old.wrote new.wrote
  pub how : HowCopy one number before old new result

-- ---- several

-- the disks of some copies
abbrev pub sources_and_targets : List Recopy → Disks
sources_and_targets copies d = list_any (λ one. is_of_copy one d) copies

-- what they may bring
pub record IsOfCopies (old : Device) (copies : List Recopy) (d s : ℕ) (value : Sector) : Type 0 where
  pub one : Recopy
  pub among : IsOneOf copies one
  pub its : IsOfCopy old one d s value

-- the range lies in the second run of one of them
abbrev pub IsInOneRun : List Recopy → Range → Type 0
IsInOneRun copies range = (one : Recopy) × IsOneOf copies one × IsInRun one.into range

-- No copy is written over what another is to be made of, and no sector comes from two places.
pub record AreApart (copies : List Recopy) : Type 0 where
  pub sources_stay : (a b : Recopy) (i j d s : ℕ) → IsOneOf copies a → IsOneOf copies b → IsAt a.from d s i → IsAt b.into d s j → ⊥
  pub one_source : (a b : Recopy) (i j d s : ℕ) → IsOneOf copies a → IsOneOf copies b → IsAt a.into d s i → IsAt b.into d s j → a ≡ b

pub record AllWell (copies : List Recopy) (number : ℕ) (old new : Device) (buf : Buffer) : Type 0 where
  pub back : IsBack number old new buf
  pub full : IsFull buf
  pub well : HasNoFault old new
  pub copied : (one : Recopy) → IsOneOf copies one → IsCopied old new one

abbrev pub HowAll : List Recopy → ℕ → ℕ → Device → Device → Begun → Type 0
HowAll copies number before old new (begun.Ended buf) = AllWell copies number old new buf
HowAll copies number before old new (begun.DiskFailed disk buf) = IsTrue (sources_and_targets copies disk) × HasFailedAlone number old new disk buf
HowAll copies number before old new begun.Dark = IsCutOff old new
HowAll copies number before old new begun.Stuck = IsLeftOut number before old new

-- the second run of each, in their order
abbrev pub runs_into : List Recopy → List Range
runs_into copies = map (λ one. run_at one.into) copies

-- A front of the copies was made, each once, in their order and well; the next one was begun and stopped, and none behind it was begun.
pub record StopsAtOne (copies : List Recopy) (old new : Device) (At : ℕ → Type 0) : Type 0 where
  pub made : List Recopy
  pub one : Recopy
  pub left : List Recopy
  pub order : copies ≡ made ++ one ∷ left
  pub copied : (other : Recopy) → IsOneOf made other → IsCopied old new other
  pub writes : StopsInCopy (runs_into made) one old.wrote new.wrote At

-- what they wrote: each its second run, once, in their order, up to the first that didn't end well
abbrev pub AllWrite : List Recopy → Device → Device → Begun → Type 0
AllWrite copies old new (begun.Ended buf) = LogsJust (runs_into copies) old.wrote new.wrote
AllWrite copies old new (begun.DiskFailed disk buf) = StopsAtOne copies old new (λ d. disk ≡ d)
AllWrite copies old new begun.Dark = StopsAtOne copies old new (λ d. Unit {0})
AllWrite copies old new begun.Stuck = StopsAtOne copies old new (λ d. Unit {0})

-- how copies ended, in this order: whatever came of them, only they were made
pub record AllGive (copies : List Recopy) (number before after : ℕ) (old new : Device) (result : Begun) : Type 0 where
  pub does : DiskWritesLeave (sources_and_targets copies) (IsOfCopies old copies) before after old new
  pub writes : AllWrite copies old new result
  pub ranges : LogsOnly (IsInOneRun copies) old.wrote new.wrote
  pub how : HowAll copies number before old new result

-- ---- in parts

-- Copies that were made, all well, and then others that were made up to the first that didn't end well, are all of them, made up to there.
abbrev pub CopiesGoOn : Type 0
CopiesGoOn = (xs ys : List Recopy) (number p q r : ℕ) (old mid new : Device) (buf : Buffer) (how : Begun)
    → AreApart (xs ++ ys) → AllGive xs number p q old mid (begun.Ended buf) → AllGive ys buf.number q r mid new how → AllGive (xs ++ ys) number p r old new how
