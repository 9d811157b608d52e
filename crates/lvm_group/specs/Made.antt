-- What the making of a group answers.
use Rattle.std.specs.Prelude.{◌≡◌, ◌⊎◌, ℕ, List, ◌∷◌, ◌++◌, [], Result, Ok, Err, IsFalse}
use Rattle.lvm_num.specs.DescriptorBytes.{descriptor_bytes}
use Rattle.lvm_num.specs.StatusBytes.{status_bytes}
use Rattle.lvm_disk.specs.Device.{Device, image_of}
use Rattle.lvm_disk.specs.Steps.{BothTold}
use Rattle.lvm_vol.specs.Log.{Log, cut_log, spare_entries}
use Rattle.lvm_kept.specs.Plans.{Plan, ChangesBy}
use Rattle.lvm_rec.specs.declared.homes.Homes.{Homes}
use Rattle.lvm_write.specs.Written.{LogsPlan, IsDarkened, IsGivenUp}
use Rattle.lvm_transfer.specs.Reading.{IsUnwritten, IsRested, IsCutOff, IsReadStuck}
use Rattle.lvm_write.specs.Beginning.{Beginning, Part, new_beginning, new_order, IsOfParts, AllStand}
use Rattle.lvm_write.specs.Ends.{BothFlip, HasNoFault, IsLowestFailed, WasTriedOnTargets}
use Rattle.lvm_group.specs.passed.Core.{Room, Cause, Refused, IsReservedFor}
use Rattle.lvm_group.specs.passed.SessionStart.{Parts, first_core}
use Rattle.lvm_group.specs.passed.Session.{Core}
use Rattle.lvm_group.specs.passed.CoreRefusedCause as cause
use Rattle.lvm_group.specs.NewGroup.{NewGroup, among, new_group, new_status, given_up, MayMakeGroup, RefusesFirst}
use Rattle.lvm_group.specs.Shown.{IfShown, HasGroup, IsClockBehindDisks, IsUnread, AllRead, AreFree, IsClear, SparesTold}

-- ---- what is written

-- the writes of the new group, by the slots that come next
abbrev pub beginning_for : List ℕ → NewGroup → Homes → Beginning
beginning_for sizes w homes = new_beginning w.moment (descriptor_bytes (new_group sizes w)) (status_bytes (new_status w)) (among w.disks) homes

-- The shelf is as it was, but for counts of what was started and waited for, for faults of the disks named, and for what the plan brings.
pub record IsAsBefore (w : NewGroup) (P : Plan) (old new : Device) : Type 0 where
  pub sizes : new.sizes ≡ old.sizes
  pub arranges : new.arranges ≡ old.arranges
  pub orders : new.orders ≡ old.orders
  pub faults : (d : ℕ) → IsFalse (among w.disks d) → new.counts.faults d ≡ old.counts.faults d
  pub wrote : LogsPlan P old.wrote new.wrote
  pub media : BothTold old.media new.media (λ was is. ChangesBy P (image_of old.sizes was) (image_of new.sizes is))

-- Where the writes stopped: those before one of them stand on each disk named, that one was at hand, and those behind it weren't begun.
pub record StopsAtWrite (w : NewGroup) (b : Beginning) (old new : Device) (AtHand : Part → Type 0) : Type 0 where
  pub before : List Part
  pub hand : Part
  pub behind : List Part
  pub is : new_order ≡ before ++ hand ∷ behind
  pub stand : AllStand b before new
  pub only : IsAsBefore w (IsOfParts b (before ++ hand ∷ [])) old new
  pub at_hand : AtHand hand

-- The writes of a group of which nothing was refused stopped so, and the contents of the disks are given up.
pub record Breaks (w : NewGroup) (was is : Log) (old new : Device) (AtHand : Beginning → Part → Type 0) : Type 0 where
  pub clear : IsClear w was old new
  pub homes : Homes
  pub spares : SparesTold homes old
  pub stops : StopsAtWrite w (beginning_for old.sizes w homes) old new (AtHand (beginning_for old.sizes w homes))
  pub entered : is ≡ given_up was w.disks

-- ---- the answers

-- The group is made and on: its records stand on each disk named, and the session begins with its status and with the stamp of its descriptor.
pub record IsMade (w : NewGroup) (room : Room) (was : Log) (old new : Device) (core : Core) : Type 0 where
  pub clear : IsClear w was old new
  pub homes : Homes
  pub spares : SparesTold homes old
  pub stand : AllStand (beginning_for old.sizes w homes) new_order new
  pub only : IsAsBefore w (IsOfParts (beginning_for old.sizes w homes) new_order) old new
  pub well : HasNoFault old new
  pub rested : IsRested old new
  pub reserved : Parts
  pub parts : IsReservedFor (new_group old.sizes w) (new_status w) room reserved
  pub next : Homes
  pub flips : BothFlip (among w.disks) homes next
  pub core_is : core ≡ first_core reserved (given_up was w.disks) (record { epoch = w.moment; seq = 2 }) next core.origin.faults

-- nothing has happened
pub record NothingHappened (was is : Log) (old new : Device) : Type 0 where
  pub shelf : new ≡ old
  pub history : is ≡ was

-- disks were read, and nothing was written or entered
pub record HasRead (was is : Log) (old new : Device) : Type 0 where
  pub unwritten : IsUnwritten old new
  pub rested : IsRested old new
  pub history : is ≡ was

-- the power was cut while disks were read
pub record IsCutReading (w : NewGroup) (was is : Log) (old new : Device) : Type 0 where
  pub may : MayMakeGroup old.sizes (spare_entries was) w.disks w.mib
  pub unwritten : IsUnwritten old new
  pub cut : IsCutOff old new
  pub entered : is ≡ cut_log was

-- the power was cut while the records were written, whose buffer has number 0
pub record IsCutWriting (w : NewGroup) (was is : Log) (old new : Device) : Type 0 where
  pub begun : Log
  pub breaks : Breaks w was begun old new (λ b hand. Unit {0})
  pub cut : IsDarkened 0 old new
  pub entered : is ≡ cut_log begun

-- nothing was heard of a read
pub record IsStuckReading (w : NewGroup) (patience : ℕ) (was is : Log) (old new : Device) : Type 0 where
  pub may : MayMakeGroup old.sizes (spare_entries was) w.disks w.mib
  pub unwritten : IsUnwritten old new
  pub stuck : IsReadStuck 0 patience old new
  pub entered : is ≡ was

-- nothing was heard of a write
pub record IsStuckWriting (w : NewGroup) (patience : ℕ) (was is : Log) (old new : Device) : Type 0 where
  pub breaks : Breaks w was is old new (λ b hand. Unit {0})
  pub stuck : IsGivenUp 0 patience old new

-- a disk couldn't be read, and none below it
pub record HasUnread (w : NewGroup) (was is : Log) (old new : Device) (disk : ℕ) : Type 0 where
  pub may : MayMakeGroup old.sizes (spare_entries was) w.disks w.mib
  pub read : HasRead was is old new
  pub unread : IsUnread old new disk

-- memory was wanting before the first write, where nothing stood against the group before any disk was read
pub record LacksMemory (w : NewGroup) (was is : Log) (old new : Device) : Type 0 where
  pub may : MayMakeGroup old.sizes (spare_entries was) w.disks w.mib
  pub unwritten : IsUnwritten old new
  pub rested : IsRested old new
  pub history : is ≡ was

-- a disk couldn't be written, and none of those named below it
pub record HasUnwritten (w : NewGroup) (was is : Log) (old new : Device) (disk : ℕ) : Type 0 where
  pub breaks : Breaks w was is old new (λ b. WasTriedOnTargets b old new)
  pub failed : IsLowestFailed (among w.disks) old new disk
  pub rested : IsRested old new

-- Why no group was made: each cause that a clause of its own gives comes exactly where it holds and those before it don't; want of memory, which is free, only where none holds that is judged before any disk is read.
abbrev pub MkvgRefuses : NewGroup → ℕ → Log → Log → Device → Device → Cause → Type 0
MkvgRefuses w patience was is old new (cause.NoDisk disk) = NothingHappened was is old new × RefusesFirst old.sizes (spare_entries was) w.disks w.mib (cause.NoDisk disk)
MkvgRefuses w patience was is old new (cause.TooMany limit) = NothingHappened was is old new × RefusesFirst old.sizes (spare_entries was) w.disks w.mib (cause.TooMany limit)
MkvgRefuses w patience was is old new (cause.TooSmall disk) = NothingHappened was is old new × RefusesFirst old.sizes (spare_entries was) w.disks w.mib (cause.TooSmall disk)
MkvgRefuses w patience was is old new cause.HistoryFull = NothingHappened was is old new × RefusesFirst old.sizes (spare_entries was) w.disks w.mib cause.HistoryFull
MkvgRefuses w patience was is old new (cause.DiskFailed disk) = HasUnread w was is old new disk ⊎ HasUnwritten w was is old new disk
MkvgRefuses w patience was is old new cause.GroupExists = HasRead was is old new × MayMakeGroup old.sizes (spare_entries was) w.disks w.mib × AllRead old new × IfShown old (λ c. HasGroup c w.force)
MkvgRefuses w patience was is old new (cause.ClockBack seen) = HasRead was is old new × AreFree w was old new × IsClockBehindDisks old w.moment seen
MkvgRefuses w patience was is old new cause.Dark = IsCutReading w was is old new ⊎ IsCutWriting w was is old new
MkvgRefuses w patience was is old new cause.Stuck = IsStuckReading w patience was is old new ⊎ IsStuckWriting w patience was is old new
MkvgRefuses w patience was is old new cause.Memory = LacksMemory w was is old new
MkvgRefuses w patience was is old new _ = ⊥

-- The group on its shelf, or the shelf and the history again, and why.
abbrev pub MkvgGives : {S : Type 0} → (S → Device) → NewGroup → Room → ℕ → Log → Device → Result (S × Core) (Refused S) → Type 0
MkvgGives device w room patience was old (Ok driver) = IsMade w room was old (device driver.0) driver.1
MkvgGives device w room patience was old (Err refused) = MkvgRefuses w patience was refused.history old (device refused.shelf) refused.cause
