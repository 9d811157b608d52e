-- How a varyon ends.
use Rattle.std.specs.Prelude.{◌≡◌, ◌⊎◌, ◌<◌, ◌≤◌, false, ℕ, List, [], Option, Some, option_map, IsTrue, Result, Ok, Err, IfOk, IfSome}
use Rattle.lvm_num.specs.declared.record.Stamp.{Stamp}
use Rattle.lvm_num.specs.declared.descriptor.Descriptor.{Descriptor}
use Rattle.lvm_num.specs.declared.status.Status.{Status}
use Rattle.lvm_num.specs.Disks.{Disks}
use Rattle.lvm_num.specs.Descriptor.{IsValid}
use Rattle.lvm_num.specs.Record.{Stamped, last_moment}
use Rattle.lvm_num.specs.Status.{IsValidStatus}
use Rattle.lvm_num.specs.StatusBytes.{status_bytes}
use Rattle.lvm_disk.specs.Device.{Media, Device, image_of}
use Rattle.lvm_vol.specs.Log.{Log, spare_entries, cut_log}
use Rattle.lvm_kept.specs.Contents.{Contents, contents_of}
use Rattle.lvm_kept.specs.Recovered.{Recovered}
use Rattle.lvm_steps.specs.Behind.{ClockIsAhead, StampsAreEarlier}
use Rattle.lvm_rec.specs.declared.homes.Homes.{Homes}
use Rattle.lvm_varyon.specs.passed.Quorum.{HasNoRecord, HasRecord, IsAmbiguous, LacksQuorum}
use Rattle.lvm_varyon.specs.passed.Core.{Room, Cause, Refused, IsReservedFor}
use Rattle.lvm_varyon.specs.passed.SessionStart.{Parts, first_core}
use Rattle.lvm_varyon.specs.passed.Session.{ArePlaced, Core, is_there}
use Rattle.lvm_varyon.specs.passed.Recovery.{Recopy, ArePlannedInOrder, ArePlanned}
use Rattle.lvm_varyon.specs.passed.Tidying.{DirtyAreOne}
use Rattle.lvm_transfer.specs.Reading.{IsUnwritten, IsRested, IsCutOff}
use Rattle.lvm_varyon.specs.passed.CoreRefusedCause as cause
use Rattle.lvm_write.specs.Beginning.{Beginning, MayBeginAgain}
use Rattle.lvm_varyon.specs.Found.{Found, HaveAnswered}
use Rattle.lvm_write.specs.Next.{IsNextStatus}
use Rattle.lvm_varyon.specs.Chosen.{answering, MayComeOn, IsClockBehindGroup}
use Rattle.lvm_varyon.specs.Second.{first_stated, IsSecond, status_after, last_seq, last_stamp}
use Rattle.lvm_varyon.specs.Writing.{beginning, Writes, IsStillOut}
use Rattle.lvm_varyon.specs.Equal.{IsEqualled, OneFailed, BrokeOff}
use Rattle.lvm_varyon.specs.Restated.{WhereTold}

-- The group that the name chooses may come on, and this was written to its members that answer, with its next status.
pub record HasWritten (old new : Device) (name : List ℕ) (moment : ℕ) (How : Beginning → Option (List ℕ) → List Recopy → Device → Type 0) : Type 0 where
  pub found : Found old new
  pub group : Descriptor
  pub was : Stamped Status
  pub next : Status
  pub chosen : MayComeOn found.shown name moment group was
  -- its members that answer are disks that did
  pub answered : (d : ℕ) → IsTrue (answering found.shown group d) → IsTrue (found.answered d)
  pub next_is : IsNextStatus group (answering found.shown group) was next
  -- the second status, where marks go once the copies are equal
  pub clean : Option Status
  pub clean_is : IsSecond group (answering found.shown group) (first_stated moment next) clean
  pub clean_valid : IfSome clean IsValidStatus
  -- the copies of track groups that their notes name, and of volumes that are dirty
  pub copies : List Recopy
  pub planned : ArePlanned found.shown group (Some was) (answering found.shown group) copies
  pub order : ArePlannedInOrder found.shown group was.value (answering found.shown group) copies
  pub writes : Writes old moment group next (answering found.shown group) (λ b read. How b (option_map status_bytes clean) copies read)

-- it is the session that begins with this group and this status
pub record IsFirst (group : Descriptor) (status : Status) (log : Log) (stamp : Stamp) (room : Room) (core : Core) : Type 0 where
  pub parts : Parts
  pub reserved : IsReservedFor group status room parts
  pub is : core ≡ first_core parts log stamp core.homes core.origin.faults

-- The group that the name chooses is on: its records stand, its named track groups and dirty volumes were copied, the marks went that aren't needed and its notes were emptied; and its
-- session begins with the last status.
pub record ComesOn (old new : Device) (log : Log) (name : List ℕ) (moment : ℕ) (room : Room) (core : Core) : Type 0 where
  pub spare : 1 ≤ spare_entries log
  pub written : HasWritten old new name moment (λ b second copies read. IsEqualled b second core.homes copies read new)
  pub first : IsFirst written.group (status_after written.next written.clean) log (last_stamp moment written.clean) room core

-- The group is recovered, by the disks that answered, where what they show is told and the clock's moments rise.
pub record IsRecovered (old new : Device) (group : Descriptor) : Type 0 where
  pub disks : Disks
  pub answered : HaveAnswered old new disks
  pub recovered : WhereTold old new (λ before ranges after. Recovered before ranges after disks group.id group)
  -- where the ranges aren't told, in all but what is said of these
  pub shown : (was is : Media) → old.media ≡ Some was → new.media ≡ Some is → Recovered (contents_of (image_of old.sizes was)) [] (contents_of (image_of new.sizes is)) disks group.id group

-- ---- the refusals

-- nothing was written, and this holds of what the disks show that answered
pub record AtChoice (old new : Device) (Why : Contents → Type 0) : Type 0 where
  pub unwritten : IsUnwritten old new
  pub rested : IsRested old new
  pub found : Found old new
  pub why : Why found.shown

-- it stopped while the shelf was read or behind that, while this was written
pub record WasStopped (old new : Device) (name : List ℕ) (moment : ℕ) (How : Type 0) : Type 0 where
  pub how : How
  pub when : IsUnwritten old new ⊎ HasWritten old new name moment (λ b second copies read. BrokeOff b second copies read new)

module _ (old new : Device) (name : List ℕ) (moment patience : ℕ) where
  -- Why no group came on where the history has room: each refusal where it holds and those before it don't; want of memory is free. The others are of other commands.
  abbrev pub VaryonStops : Cause → Type 0
  VaryonStops cause.NoRecord = AtChoice old new (λ c. HasNoRecord c name)
  VaryonStops cause.Ambiguous = AtChoice old new (λ c. HasRecord c name × IsAmbiguous c name)
  VaryonStops (cause.NoQuorum have total) = AtChoice old new (λ c. LacksQuorum c name have total)
  VaryonStops (cause.ClockBack seen) = AtChoice old new (λ c. IsClockBehindGroup c name moment seen)
  VaryonStops (cause.DiskFailed disk) = HasWritten old new name moment (λ b second copies read. OneFailed b second copies disk read new)
  VaryonStops cause.Dark = WasStopped old new name moment (IsCutOff old new)
  VaryonStops cause.Stuck = WasStopped old new name moment (IsStillOut patience old new)
  VaryonStops cause.Memory = IsUnwritten old new × IsRested old new
  VaryonStops _ = ⊥

  -- Why none came on: the history is full, or it isn't and this.
  abbrev pub VaryonRefuses : Log → Cause → Type 0
  VaryonRefuses log cause.HistoryFull = (spare_entries log ≡ 0) × (new ≡ old)
  VaryonRefuses log why = (1 ≤ spare_entries log) × VaryonStops why

-- the history after a refusal: a cut of the power is entered
abbrev pub log_after : Cause → Log → Log
log_after cause.Dark log = cut_log log
log_after _ log = log

-- The group on its shelf, or the shelf and the history again, and why.
abbrev pub VaryonGives : {S : Type 0} → (S → Device) → Device → Log → List ℕ → ℕ → Room → ℕ → Result (S × Core) (Refused S) → Type 0
VaryonGives device old log name moment room patience (Ok driver) = ComesOn old (device driver.0) log name moment room driver.1
VaryonGives device old log name moment room patience (Err refused) = VaryonRefuses old (device refused.shelf) name moment patience log refused.cause × (refused.history ≡ log_after refused.cause log)

-- Where the media is told, the usable copies of each logical partition of a volume that is dirty hold one value at each block, by what the session says.
abbrev pub DirtyAreEqual : Device → Core → Type 0
DirtyAreEqual device core =
    IfSome device.media (λ media. (stands : Stamped Status) → stands.value ≡ core.status.committed → DirtyAreOne (contents_of (image_of device.sizes media)) core.descriptor (Some stands) (is_there core))

-- So it is, and where the clock's moments rise the group is recovered, and the copies of volumes that are dirty still are equal.
pub record VariesOnAt {S : Type 0} (device : S → Device) (log : Log) (name : List ℕ) (moment : ℕ) (room : Room) (patience : ℕ) (old : Device) (outcome : Result (S × Core) (Refused S)) : Type 0 where
  pub gives : VaryonGives device old log name moment room patience outcome
  pub recovered : IfOk outcome (λ driver. ClockIsAhead log.run moment old log.facts → IsRecovered old (device driver.0) driver.1.descriptor)
  pub equal : IfOk outcome (λ driver. ClockIsAhead log.run moment old log.facts → DirtyAreEqual (device driver.0) driver.1)

-- ---- before the session

-- no record on the disks is of this moment or a later one, unless it is the last one that there is
abbrev pub IsAheadOfDisks : ℕ → Device → Type 0
IsAheadOfDisks moment device = moment < last_moment → StampsAreEarlier moment device

-- The group that the name chooses has its records, and these are the parts of its session and the sequence of its last record.
pub record IsBrought (old new : Device) (name : List ℕ) (moment : ℕ) (room : Room) (parts : Parts) (seq : ℕ) (homes : Homes) : Type 0 where
  pub written : HasWritten old new name moment (λ b second copies read. IsEqualled b second homes copies read new)
  pub valid : IsValid written.group
  pub seq_is : seq ≡ last_seq written.clean
  pub reserved : IsReservedFor written.group (status_after written.next written.clean) room parts
  pub placed : ArePlaced new.sizes parts.descriptor parts.updater.wanted
  -- by the choice and the clock
  pub may : IsAheadOfDisks moment old → (media : Media) → old.media ≡ Some media
      → MayBeginAgain (beginning moment written.group written.next (answering written.found.shown written.group) written.writes.homes) false written.group written.next written.found.answered written.was (image_of old.sizes media)

abbrev pub BringGives : Device → Device → List ℕ → ℕ → ℕ → Room → Result ((Parts × ℕ) × Homes) Cause → Type 0
BringGives old new name moment patience room (Ok got) = IsBrought old new name moment room got.0.0 got.0.1 got.1
BringGives old new name moment patience room (Err why) = VaryonStops old new name moment patience why

-- what the session of these parts begins with, where its records were written
abbrev pub brought_of : {T : Type 0} → T → Result Homes Cause → Result (T × Homes) Cause
brought_of parts (Ok homes) = Ok (parts, homes)
brought_of parts (Err why) = Err why
