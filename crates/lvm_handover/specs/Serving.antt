-- A session that a command on its group has left: where it is sound with requests too.
use Rattle.std.specs.Prelude.{◌≡◌, ◌==◌, ◌⊎◌, ◌<◌, ◌≤◌, ◌+◌, ◌^◌, ◌||◌, ◌&&◌, ℕ, Bool, List, [], Result, IsTrue, IsFalse}
use Rattle.std.specs.List.{list_any}
use Rattle.lvm_num.specs.declared.descriptor.PvRow.{PvRow}
use Rattle.lvm_num.specs.declared.place.Pp.{Pp}
use Rattle.lvm_num.specs.declared.status.Status.{Status}
use Rattle.lvm_num.specs.Descriptor.{is_member}
use Rattle.lvm_num.specs.Disks.{Disks}
use Rattle.lvm_num.specs.Status.{calls_stale, calls_missing}
use Rattle.lvm_disk.specs.Counts.{NoneFalls, Rose}
use Rattle.lvm_vol.specs.Order.{Ordered}
use Rattle.lvm_kept.specs.Group.{IsOneOf}
use Rattle.lvm_status.specs.Members.{HasItsRows}
use Rattle.lvm_status.specs.Table.{SameMissing, SameStale, has_row}
use Rattle.lvm_commit.specs.Settling.{NoneIsLeft}
use Rattle.lvm_session.specs.State.{Core, State, state}
use Rattle.lvm_session.specs.Causes.{FailedSince, faults_at_first}
use Rattle.lvm_session.specs.Judging.{copies_in, is_missing, is_wanted_stale}
use Rattle.lvm_session.specs.Left.{updates_left}
use Rattle.lvm_session.specs.Marks.{is_among}
use Rattle.lvm_session.specs.Placed.{ArePlaced}
use Rattle.lvm_session.specs.Sound.{IsSound}
use Rattle.lvm_handover.specs.passed.Core.{Leaves, Scope, IsSettled, IsSoundAtRest}
use Rattle.lvm_volumes.specs.passed.VolumePlan.{GroupFault, NewVolume, IfOn}
use Rattle.lvm_volumes.specs.Endings.{HasFresh, KeepsFresh, StillHeld}
use Rattle.lvm_volumes.specs.Volumes.{MklvGives, RmlvGives, to_make, to_remove}

-- ---- what is handed over

-- these partitions are stale too
pub record MarksAdded (added : List Pp) (old new : Status) : Type 0 where
  pub stale : (p : Pp) → calls_stale new p ≡ (calls_stale old p || is_among added p)
  pub missing : SameMissing old new
  pub rows : (disk : ℕ) → has_row new disk ≡ has_row old disk
  pub is : new ≡ record old { rows = new.rows }

-- these of its disks that are missing by another status are missing too
pub record MarksMissing (members : List PvRow) (now old new : Status) : Type 0 where
  pub stale : SameStale old new
  pub missing : (disk : ℕ) → calls_missing new disk ≡ (calls_missing old disk || (list_any (λ (row : PvRow). row.disk == disk) members && calls_missing now disk))
  pub rows : (disk : ℕ) → has_row new disk ≡ has_row old disk
  pub is : new ≡ record old { rows = new.rows }

-- these partitions are stale too, and these disks missing
pub record MarksMore (added : List Pp) (gone : Disks) (old new : Status) : Type 0 where
  pub stale : (p : Pp) → calls_stale new p ≡ (calls_stale old p || is_among added p)
  pub missing : (disk : ℕ) → calls_missing new disk ≡ (calls_missing old disk || gone disk)
  pub rows : (disk : ℕ) → has_row new disk ≡ has_row old disk
  pub is : new ≡ record old { rows = new.rows }

-- a member that is missing
abbrev pub is_gone : Core → ℕ → Bool
is_gone core disk = is_member core.descriptor disk && is_missing core disk

-- In the status with which the session began these partitions are stale too, and the members missing that are so by now; nothing else differs.
pub record OriginIsMarked (added : List Pp) (old new : Core) : Type 0 where
  pub marks : MarksMore added (is_gone old) old.origin.table new.origin.table
  pub is : new ≡ record old { origin = record old.origin { table = new.origin.table } }

-- then it is sound with requests too, where it is sound between commands
abbrev pub MayServe : List Pp → State → Type 0
MayServe added s = IsSoundAtRest s → (core : Core) → OriginIsMarked added s.core core → IsSound (state s.device core)

-- so is one that isn't handed over, of which nothing was added
abbrev pub StaysSound : State → Type 0
StaysSound s = IsSoundAtRest s → IsSound s

-- ---- what a command leaves

-- The session goes on with its members, on partitions of the same size. Further ones are missing, each after a transfer to it has failed, and copies are stale which were added or stand on a
-- missing disk; none is left behind, and each logical partition has a fresh copy that had one among those it had.
pub record GoesOnWith (added : List Pp) (old new : State) : Type 0 where
  pub is : new.core ≡ record old.core { descriptor = new.core.descriptor; history = new.core.history; last = new.core.last; status = new.core.status; homes = new.core.homes }
  pub members : new.core.descriptor.pvs ≡ old.core.descriptor.pvs
  pub partitions : new.core.descriptor.mib ≡ old.core.descriptor.mib
  pub sizes : new.device.sizes ≡ old.device.sizes
  pub falls : NoneFalls old.device.counts new.device.counts
  pub ordered : Ordered new.core.history.run [] new.core.history.facts
  pub room : new.core.history.room ≡ old.core.history.room
  pub numbers : new.core.status.stamp.seq + updates_left new.core < 2 ^ 32
  pub left : NoneIsLeft new.core.descriptor new.core.status
  pub stays : (d : ℕ) → IsTrue (is_missing old.core d) → IsTrue (is_missing new.core d)
  pub lost : (d : ℕ) → IsTrue (is_missing new.core d) → IsFalse (is_missing old.core d) → Rose (old.device.counts.faults d) (new.device.counts.faults d)
  pub further : (p : Pp) → IsTrue (is_wanted_stale new.core p) → IsTrue (is_wanted_stale old.core p) ⊎ IsTrue (is_among added p) ⊎ IsTrue (is_missing new.core p.disk)
  pub fresh : (lv lp : ℕ) (p : Pp) → IsOneOf (copies_in new.core.descriptor lv lp) p → IsFalse (calls_stale old.core.origin.table p) → IsFalse (is_among added p) → HasFresh new.core lv lp

-- The session goes on, also with other members. What it says that it began with is true of it: which disks are missing and which copies stale came with it, or by a fault since, or stand on a
-- missing disk, or were added. None is left behind, and each logical partition has a fresh copy that had one when it began.
pub record GoesOnFrom (added : List Pp) (old new : State) : Type 0 where
  pub is : new.core ≡ record old.core { descriptor = new.core.descriptor; cache = new.core.cache; origin = new.core.origin; history = new.core.history; last = new.core.last; status = new.core.status; homes = new.core.homes }
  pub entries : new.core.cache.entries ≡ old.core.cache.entries
  pub placed : ArePlaced new.device.sizes new.core.descriptor new.core.origin.table
  pub rows : HasItsRows new.core.descriptor new.core.origin.table
  pub ordered : Ordered new.core.history.run [] new.core.history.facts
  pub room : new.core.history.room ≡ old.core.history.room
  pub numbers : new.core.status.stamp.seq + updates_left new.core < 2 ^ 32
  pub left : NoneIsLeft new.core.descriptor new.core.status
  pub since : (d : ℕ) → faults_at_first new.core d ≤ new.device.counts.faults d
  pub still_missing : (d : ℕ) → IsTrue (calls_missing new.core.origin.table d) → IsTrue (is_missing new.core d)
  pub missing : (d : ℕ) → IsTrue (is_missing new.core d) → IsTrue (calls_missing new.core.origin.table d) ⊎ FailedSince new d
  pub stale : (p : Pp) → IsTrue (is_wanted_stale new.core p)
      → IsTrue (calls_stale new.core.origin.table p) ⊎ IsTrue (is_among added p) ⊎ IsTrue (is_missing new.core p.disk) ⊎ FailedSince new p.disk
  pub fresh : (lv lp : ℕ) (p : Pp) → IsOneOf (copies_in new.core.descriptor lv lp) p → IsFalse (calls_stale new.core.origin.table p) → IsFalse (is_among added p) → HasFresh new.core lv lp

-- A session that was sound is so again, where the command leaves it settled,
abbrev pub CommandsServe : Type 0
CommandsServe = (added : List Pp) (old new : State) → IsSound old → IsSettled old.core → IsSettled new.core → GoesOnWith added old new
    → MayServe added new × (added ≡ [] → StaysSound new)

-- and where its members change.
abbrev pub OtherMembersServe : Type 0
OtherMembersServe = (added : List Pp) (old new : State) → IsSound old → IsSettled old.core → IsSettled new.core → GoesOnFrom added old new
    → MayServe added new × (added ≡ [] → StaysSound new)

-- ---- by their contracts

-- what the contract of a command on volumes says, whatever it answers
pub record IsCommanded {A : Type 0} (scope : Scope) (before after : ℕ) (old new : State) (answer : Result A GroupFault) : Type 0 where
  pub began : IsSettled old.core
  pub on : IfOn answer (IsSettled new.core)
  pub still : IfOn answer (StillHeld old new)
  pub fresh : IfOn answer (KeepsFresh old new)
  pub leaves : Leaves scope before after old new

-- So it is after the making of a volume, and after the removal of one.
abbrev pub MklvServes : Type 0
MklvServes = (v : NewVolume) (before after : ℕ) (old new : State) (answer : Result ℕ GroupFault)
    → IsSound old → IsCommanded (to_make v old.core) before after old new answer → MklvGives v before old new answer → IfOn answer (MayServe [] new × StaysSound new)

abbrev pub RmlvServes : Type 0
RmlvServes = (lv before after : ℕ) (old new : State) (answer : Result (Unit {0}) GroupFault)
    → IsSound old → IsCommanded (to_remove lv old.core) before after old new answer → RmlvGives lv before old new answer → IfOn answer (MayServe [] new × StaysSound new)
