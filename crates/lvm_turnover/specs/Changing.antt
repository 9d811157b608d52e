-- What a group's change of its rule of votes, of its size or of its members answers, and what it leaves.
use Rattle.std.specs.Prelude.{◌≡◌, ◌⊎◌, ℕ, ◌+◌, ◌*◌, ◌||◌, List, [], length, Result, Ok, Err, IsTrue, IsFalse}
use Rattle.lvm_num.specs.declared.place.Pp.{Pp}
use Rattle.lvm_num.specs.declared.descriptor.Descriptor.{Descriptor}
use Rattle.lvm_num.specs.Disks.{Disks}
use Rattle.lvm_num.specs.DescriptorBytes.{descriptor_bytes}
use Rattle.lvm_num.specs.Status.{calls_stale, calls_missing, calls_dirty}
use Rattle.lvm_num.specs.Votes.{votes_in, total_votes, is_enough_to_write, CanWrite}
use Rattle.lvm_disk.specs.Counts.{Rose, NoneFalls}
use Rattle.lvm_disk.specs.Device.{IsReady}
use Rattle.lvm_kept.specs.Moments.{Moment, StaysCalm}
use Rattle.lvm_kept.specs.Plans.{Plan}
use Rattle.lvm_erase.specs.Erasing.{ZeroesSlots}
use Rattle.lvm_commit.specs.passed.Steps.{SpanGoesOn}
use Rattle.lvm_write.specs.Parts.{Spends}
use Rattle.lvm_write.specs.Written.{KeepsShelf}
use Rattle.lvm_commit.specs.Settling.{there, AreWell, SpendsNumbers, IsOfStatus, IsOfCommit}
use Rattle.lvm_session.specs.declared.open.Power.TheVariants as power
use Rattle.lvm_session.specs.State.{State, moment_of, is_there}
use Rattle.lvm_core.specs.declared.fault.CommitFault.{CommitFault}
use Rattle.lvm_core.specs.declared.fault.CommitFault.TheVariants as fault
use Rattle.lvm_core.specs.Committing.{HasStated, HasGoneDark, IsLeftOut, StaysBehind, is_in}
use Rattle.lvm_core.specs.Leaves.{NoPartition, IsHeldSince, WasLeftBehind, KeepsHistory, FindsOnly}

-- ---- how it ends

-- a session with another descriptor
abbrev pub with_descriptor : Descriptor → State → State
with_descriptor d s = record s { core = record s.core { descriptor = d } }

-- The session has gone off, with this descriptor: by the other one the members that aren't missing have these votes, too few to write, since a transfer to one
-- has failed.
pub record HasGoneOffBy (by has : Descriptor) (have total : ℕ) (old new : State) : Type 0 where
  pub have_is : have ≡ votes_in by (is_there new.core)
  pub total_is : total ≡ total_votes by
  pub few : IsFalse (is_enough_to_write by have)
  pub disk : ℕ
  pub was : IsTrue (is_there old.core disk)
  pub failed : Rose (old.device.counts.faults disk) (new.device.counts.faults disk)
  pub is : new.core ≡ record old.core { descriptor = has; status = new.core.status; homes = new.core.homes; power = power.Off }
  pub well : AreWell new.core.status old.device new.device
  pub ready : IsReady new.device
  pub cuts : new.device.counts.cuts ≡ old.device.counts.cuts

-- With its descriptor as it was the votes are those by the first of the two descriptors that isn't met; with the next one, with which it goes on from here,
-- they are those by that.
abbrev pub GoesOffFrom : Descriptor → ℕ → ℕ → State → State → State → Type 0
GoesOffFrom next have total old over new =
    HasGoneOffBy old.core.descriptor old.core.descriptor have total old new
    ⊎ (HasGoneOffBy next old.core.descriptor have total old new × CanWrite old.core.descriptor (is_there new.core))
    ⊎ HasGoneOffBy next next have total over new

-- what a change answers with which the session goes on from here: the next descriptor is committed, or it broke off with the descriptor as it was, or with the next one
abbrev pub EndsFrom : Descriptor → ℕ → State → State → State → Result (Unit {0}) CommitFault → Type 0
EndsFrom next patience old over new (Ok done) = HasStated next over new
EndsFrom next patience old over new (Err (fault.WentOff have total)) = GoesOffFrom next have total old over new
EndsFrom next patience old over new (Err fault.Dark) = HasGoneDark old new ⊎ HasGoneDark (with_descriptor next over) new
EndsFrom next patience old over new (Err fault.Stuck) = IsLeftOut patience old new ⊎ IsLeftOut patience (with_descriptor next over) new
EndsFrom next patience old over new (Err (fault.DiskFailed disk)) = ⊥

-- where no member leaves, the session goes on from where it was
abbrev pub GoesOff : Descriptor → ℕ → ℕ → State → State → Type 0
GoesOff next have total old new = GoesOffFrom next have total old old new

abbrev pub ChangeEnds : Descriptor → ℕ → State → State → Result (Unit {0}) CommitFault → Type 0
ChangeEnds next patience old new answer = EndsFrom next patience old old new answer

-- ---- whatever the answer

-- it is this one
abbrev pub IsNext : Descriptor → Descriptor → Type 0
IsNext next k = k ≡ next

-- the disk is in the list, or in the set
abbrev pub among : List ℕ → Disks → Disks
among disks set disk = is_in disks disk || set disk

-- The sector is one of a status of the group, of a descriptor of which this holds, or zeros at the head of a slot of descriptors of a disk that has left.
abbrev pub IsOfChange : (Descriptor → Type 0) → List ℕ → List ℕ → State → State → Plan
IsOfChange N joins erases old new d s value =
    IsOfStatus old.core.status new.core.status d s value
    ⊎ ((next : Descriptor) × N next × IsOfCommit (descriptor_bytes next) old.core.status new.core.status d s value)
    ⊎ (IsTrue (is_in erases d) × ZeroesSlots d d s value)

-- What is wanted of the status afterwards: some members have become missing, each after a transfer to it has failed, and further partitions are stale only as copies that were
-- left behind. What it said of the disks that left is gone.
pub record KeepsMarks (N : Descriptor → Type 0) (joins erases : List ℕ) (old new : State) : Type 0 where
  pub group : (new.core.status.group ≡ old.core.status.group) ⊎ ((k : Descriptor) × N k × (new.core.status.group ≡ record k { lvs = [] }))
  pub stale : (p : Pp) → IsFalse (is_in erases p.disk) → IsTrue (calls_stale old.core.status.wanted p) → IsTrue (calls_stale new.core.status.wanted p)
  pub further : (p : Pp) → IsTrue (calls_stale new.core.status.wanted p) → IsTrue (calls_stale old.core.status.wanted p) ⊎ WasLeftBehind N NoPartition old new p
  pub dirty : (lv : ℕ) → calls_dirty new.core.status.wanted lv ≡ calls_dirty old.core.status.wanted lv
  pub stays : (d : ℕ) → IsFalse (is_in erases d) → IsTrue (calls_missing old.core.status.wanted d) → IsTrue (calls_missing new.core.status.wanted d)
  pub lost : (d : ℕ) → IsTrue (calls_missing new.core.status.wanted d) → IsFalse (calls_missing old.core.status.wanted d)
      → IsTrue (among joins (is_there old.core) d) × Rose (old.device.counts.faults d) (new.device.counts.faults d)
  pub fewer : (d : ℕ) → IsTrue (there new.core.status d) → IsTrue (among joins (there old.core.status) d)

-- the numbers that it may spend beside those for members that became missing
abbrev pub numbers_for : List ℕ → List ℕ → ℕ
numbers_for joins erases = 3 + 6 * (length joins + length erases)

-- What a change leaves that may commit descriptors of which this holds, touch the records of disks that join and of disks that leave, and spend so many numbers, with the patience
-- before and after, whatever its answer.
pub record LeavesWithin (most : ℕ) (N : Descriptor → Type 0) (joins erases : List ℕ) (before after : ℕ) (old new : State) : Type 0 where
  pub writes : KeepsShelf (among joins (among erases (is_there old.core))) (IsOfChange N joins erases old new) old.device new.device
  pub status : KeepsMarks N joins erases old new
  -- the stamps are of the same session, and rise
  pub numbers : SpendsNumbers most old.core.status new.core.status
  pub history : KeepsHistory old.core.history new.core.history
  -- a span that leads here goes on, where the disks hold what the session says by whatever was told before it
  pub spans : (run : ℕ) (first : Moment) → IsHeldSince run first old → SpanGoesOn run first (moment_of old) (moment_of new)
  pub finds : FindsOnly N old new
  -- no write is open that wasn't, and the disks stay behind the clock
  pub calm : StaysCalm (moment_of old) (moment_of new)
  pub behind : StaysBehind old new
  pub falls : NoneFalls old.device.counts new.device.counts
  pub spends : Spends before after old.device new.device

-- so does a command that takes each of its disks by itself
abbrev pub ChangeLeaves : (Descriptor → Type 0) → List ℕ → List ℕ → ℕ → ℕ → State → State → Type 0
ChangeLeaves N joins erases before after old new = LeavesWithin (numbers_for joins erases) N joins erases before after old new
