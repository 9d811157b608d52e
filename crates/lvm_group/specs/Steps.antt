-- The two steps in which a group is made on a shelf: its disks are read, and its records are written.
use Rattle.std.specs.Prelude.{◌≡◌, ℕ, ◌<◌, ◌≤◌, Bool, true, false, if◌then◌else◌, List, Result, Ok, Err}
use Rattle.lvm_num.specs.Record.{last_moment}
use Rattle.lvm_num.specs.Descriptor.{IsValid}
use Rattle.lvm_disk.specs.Device.{Device}
use Rattle.lvm_vol.specs.Log.{Log, cut_log}
use Rattle.lvm_rec.specs.declared.homes.Homes.{Homes}
use Rattle.lvm_write.specs.Written.{IsDarkened, IsGivenUp}
use Rattle.lvm_transfer.specs.Reading.{IsUnwritten, IsRested, IsCutOff, IsReadStuck}
use Rattle.lvm_write.specs.Beginning.{Beginning, new_order, IsOfParts, AllStand}
use Rattle.lvm_write.specs.Ends.{BothFlip, HasNoFault, StopsAt, IsLowestFailed, WasTriedOnTargets}
use Rattle.lvm_group.specs.passed.Core.{Cause, Room, IsReservedFor}
use Rattle.lvm_group.specs.passed.SessionStart.{Parts}
use Rattle.lvm_group.specs.passed.CoreRefusedCause as cause
use Rattle.lvm_group.specs.declared.look.Free.{Free}
use Rattle.lvm_group.specs.declared.make.Asked.{Asked}
use Rattle.lvm_group.specs.declared.make.Standing.{Standing}
use Rattle.lvm_group.specs.NewGroup.{NewGroup, among, size_for, new_group, new_status, given_up}
use Rattle.lvm_group.specs.Made.{beginning_for, IsAsBefore}
use Rattle.lvm_group.specs.Shown.{IfShown, HasGroup, ShowsEarlier, IsClockBehindDisks, IsUnread, AllRead, IsClear, SparesTold}

-- the group that is asked for
abbrev pub asked_group : Asked → List ℕ → ℕ → NewGroup
asked_group asked disks moment = record { name = asked.name; mib = asked.mib; disks = disks; force = asked.force; moment = moment }

-- ---- the disks are read

-- nothing was written, and nothing is out
pub record HasOnlyRead (old new : Device) : Type 0 where
  pub unwritten : IsUnwritten old new
  pub rested : IsRested old new

-- What was found lets a group be made at the moment: the slots that come next, and the buffer again, which has number 0.
pub record LetsMake (force : Bool) (moment : ℕ) (old new : Device) (free : Free) : Type 0 where
  pub reads : HasOnlyRead old new
  pub read : AllRead old new
  pub no_group : IfShown old (λ c. HasGroup c force → ⊥)
  pub first : moment < last_moment
  pub later : IfShown old (λ c. ShowsEarlier c moment)
  pub spares : SparesTold free.homes old
  pub buffer : free.buf.number ≡ 0

-- it doesn't, or it wasn't found out
abbrev pub RefusesFound : Bool → ℕ → ℕ → Device → Device → Cause → Type 0
RefusesFound force moment patience old new (cause.DiskFailed disk) = HasOnlyRead old new × IsUnread old new disk
RefusesFound force moment patience old new cause.GroupExists = HasOnlyRead old new × AllRead old new × IfShown old (λ c. HasGroup c force)
RefusesFound force moment patience old new (cause.ClockBack seen) = HasOnlyRead old new × AllRead old new × IfShown old (λ c. HasGroup c force → ⊥) × IsClockBehindDisks old moment seen
RefusesFound force moment patience old new cause.Dark = IsUnwritten old new × IsCutOff old new
RefusesFound force moment patience old new cause.Stuck = IsUnwritten old new × IsReadStuck 0 patience old new
RefusesFound force moment patience old new cause.Memory = HasOnlyRead old new
RefusesFound force moment patience old new _ = ⊥

abbrev pub LookGives : Bool → ℕ → ℕ → Device → Device → Result Free Cause → Type 0
LookGives force moment patience old new (Ok free) = LetsMake force moment old new free
LookGives force moment patience old new (Err why) = RefusesFound force moment patience old new why

-- ---- the records are written

-- all of them stand on each disk
pub record AreWritten (b : Beginning) (old new : Device) : Type 0 where
  pub stand : AllStand b new_order new
  pub well : HasNoFault old new
  pub rested : IsRested old new

-- one of them failed on a disk
pub record WriteFailsOn (b : Beginning) (old new : Device) (disk : ℕ) : Type 0 where
  pub first : IsLowestFailed b.targets old new disk
  pub stops : StopsAt b new_order old new (WasTriedOnTargets b old new)
  pub rested : IsRested old new

-- they weren't all written
abbrev pub WritingFails : Beginning → ℕ → Device → Device → Cause → Type 0
WritingFails b patience old new (cause.DiskFailed disk) = WriteFailsOn b old new disk
WritingFails b patience old new cause.Dark = IsDarkened 0 old new × StopsAt b new_order old new (λ hand. Unit {0})
WritingFails b patience old new cause.Stuck = IsGivenUp 0 patience old new × StopsAt b new_order old new (λ hand. Unit {0})
WritingFails b patience old new _ = ⊥

-- how the writes ended, with the slots that then come next
abbrev pub NewWritesGive : Beginning → ℕ → Device → Device → Result Homes Cause → Type 0
NewWritesGive b patience old new (Ok next) = AreWritten b old new × BothFlip b.targets b.homes next
NewWritesGive b patience old new (Err why) = WritingFails b patience old new why

-- ---- after a power cut

abbrev pub cuts_power : Cause → Bool
cuts_power cause.Dark = true
cuts_power _ = false

-- the history, with a cut where the power is off
abbrev pub cut_at : {T : Type 0} → Result T Cause → Log → Log
cut_at (Ok value) log = log
cut_at (Err why) log = if cuts_power why then cut_log log else log

-- ---- all of it

-- what the session of these parts starts with, where its records were written
abbrev pub standing_of : {P : Type 0} → P → Result Homes Cause → Result (Standing P) Cause
standing_of parts (Ok homes) = Ok (record { parts = parts; homes = homes })
standing_of parts (Err why) = Err why

-- The records of the new group stand on each disk named, and its session may start, with these parts and slots.
pub record RecordsStand (w : NewGroup) (room : Room) (was is : Log) (old new : Device) (standing : Standing Parts) : Type 0 where
  pub clear : IsClear w was old new
  pub homes : Homes
  pub spares : SparesTold homes old
  pub size : 1 ≤ size_for old.sizes w.disks w.mib
  pub valid : IsValid (new_group old.sizes w)
  pub stand : AllStand (beginning_for old.sizes w homes) new_order new
  pub only : IsAsBefore w (IsOfParts (beginning_for old.sizes w homes) new_order) old new
  pub well : HasNoFault old new
  pub rested : IsRested old new
  pub parts : IsReservedFor (new_group old.sizes w) (new_status w) room standing.parts
  pub flips : BothFlip (among w.disks) homes standing.homes
  pub entered : is ≡ given_up was w.disks
