-- What each call of a session leaves, whatever its answer.
use Rattle.std.specs.Prelude.{◌≡◌, ◌≢◌, ◌⊎◌, ℕ, ◌≤◌, ◌<◌, ◌++◌, Bool, true, false, List, [], count_by, Contains, IsTrue, IsFalse}
use Rattle.lvm_num.specs.declared.place.Pp.{Pp}
use Rattle.lvm_num.specs.declared.descriptor.Descriptor.{Descriptor}
use Rattle.lvm_num.specs.DescriptorBytes.{descriptor_bytes}
use Rattle.lvm_num.specs.Status.{calls_stale, calls_missing, calls_dirty}
use Rattle.lvm_disk.specs.Counts.{Rose, NoneFalls}
use Rattle.lvm_disk.specs.Device.{Image, Device, MayLeave}
use Rattle.lvm_vol.specs.declared.entry.Vol.TheVariants.{Lv}
use Rattle.lvm_vol.specs.Facts.{Fact, Making, Made, Split, Removing, Removed}
use Rattle.lvm_vol.specs.Legal.{IsLater}
use Rattle.lvm_vol.specs.Log.{Log}
use Rattle.lvm_kept.specs.Contents.{contents_of}
use Rattle.lvm_kept.specs.Group.{IsFound}
use Rattle.lvm_kept.specs.Moments.{Moment, StaysCalm}
use Rattle.lvm_kept.specs.Plans.{Plan}
use Rattle.lvm_commit.specs.passed.Steps.{RunBegins, SpanGoesOn}
use Rattle.lvm_write.specs.Parts.{Spends}
use Rattle.lvm_write.specs.Written.{KeepsShelf}
use Rattle.lvm_commit.specs.Settling.{there, HasAnother, HasSameRows, SpendsNumbers, IsOfStatus, IsOfCommit}
use Rattle.lvm_session.specs.State.{State, is_there}
use Rattle.lvm_core.specs.Held.{IsHeld}
use Rattle.lvm_core.specs.Committing.{moment_of, LetsCommitAmong, MayGoClean, StaysBehind}
use Rattle.lvm_core.specs.Zeros.{IsZeroOf}

-- ---- what a call may do

-- What a call may do: commit descriptors of which `next` holds, write zeros to partitions of which `zeros` holds, make partitions stale and fresh, and volumes dirty
-- or not, spend so many numbers; and under which premise a span goes on with it.
pub record Scope : Type 1 where
  pub next : Descriptor → Type 0
  pub zeros : Pp → Type 0
  pub stale : Pp → Type 0
  pub fresh : Pp → Type 0
  pub marks : ℕ → Type 0
  pub numbers : ℕ
  pub lets : State → State → ℕ → Moment → Type 0

abbrev pub NoDescriptor : Descriptor → Type 0
NoDescriptor next = ⊥

abbrev pub NoPartition : Pp → Type 0
NoPartition pp = ⊥

abbrev pub NoVolume : ℕ → Type 0
NoVolume lv = ⊥

-- by whatever was told before a span, the disks hold what the session says
abbrev pub IsHeldSince : ℕ → Moment → State → Type 0
IsHeldSince run first s = (past : List Fact) → RunBegins run past first → IsHeld s.device s.core

-- a span goes on without a premise
abbrev pub Always : State → State → ℕ → Moment → Type 0
Always old new run first = Unit {0}

-- this descriptor is committed, which the history has to let be
abbrev pub committing : Descriptor → Scope
committing d = record { next = λ next. next ≡ d; zeros = NoPartition; stale = NoPartition; fresh = NoPartition; marks = NoVolume; numbers = 1; lets = λ old new run first. (among : ℕ → Bool) × LetsCommitAmong among d run first old }

-- these partitions are marked
abbrev pub marking : List Pp → List Pp → Scope
marking to_stale to_fresh = record { next = NoDescriptor; zeros = NoPartition; stale = Contains to_stale; fresh = Contains to_fresh; marks = NoVolume; numbers = 1; lets = Always }

-- these volumes become dirty and those clean, which their copies have to let be after an earlier history
abbrev pub dirtying : List ℕ → List ℕ → Scope
dirtying to_dirty to_clean = record { next = NoDescriptor; zeros = NoPartition; stale = NoPartition; fresh = NoPartition; marks = Contains (to_dirty ++ to_clean); numbers = 1; lets = λ old new run first. (past : List Fact) → RunBegins run past first → MayGoClean to_clean old }

-- zeros are written to a partition
abbrev pub zeroing : Pp → Scope
zeroing pp = record { next = NoDescriptor; zeros = λ p. p ≡ pp; stale = NoPartition; fresh = NoPartition; marks = NoVolume; numbers = 0; lets = Always }

-- ---- what was written

-- a status of the session, a descriptor of which the one holds, or zeros in a partition of which the other does
abbrev pub IsOfCommand : (Descriptor → Type 0) → (Pp → Type 0) → State → State → Plan
IsOfCommand N Z old new d s value =
    IsOfStatus old.core.status new.core.status d s value
    ⊎ ((next : Descriptor) × N next × IsOfCommit (descriptor_bytes next) old.core.status new.core.status d s value)
    ⊎ ((pp : Pp) × Z pp × IsZeroOf old.core.descriptor.mib pp d s value)

-- A copy of a volume of the descriptor, or of one of which N holds, on a disk that isn't there: another copy of its logical partition was usable, or made so.
pub record WasLeftBehind (N : Descriptor → Type 0) (F : Pp → Type 0) (old new : State) (p : Pp) : Type 0 where
  pub group : Descriptor
  pub known : (group ≡ old.core.descriptor) ⊎ N group
  pub its : HasAnother group p
  pub absent : IsFalse (there new.core.status p.disk)
  pub apart : its.other ≢ p
  pub usable : (F its.other → ⊥) → IsFalse (calls_stale old.core.status.wanted its.other)
  pub was_there : IsTrue (there old.core.status its.other.disk)

-- What is wanted of the status afterwards: members have become missing, each after a transfer to it has failed; stale ones of the partitions of which F holds
-- may be fresh, further ones are stale only where S holds or as copies that were left behind, and volumes of which D holds may be dirty or not.
pub record KeepsStatus (N : Descriptor → Type 0) (S F : Pp → Type 0) (D : ℕ → Type 0) (old new : State) : Type 0 where
  pub group : new.core.status.group ≡ old.core.status.group
  pub rows : HasSameRows old.core.status.wanted new.core.status.wanted
  pub stale : (p : Pp) → (F p → ⊥) → IsTrue (calls_stale old.core.status.wanted p) → IsTrue (calls_stale new.core.status.wanted p)
  pub further : (p : Pp) → IsTrue (calls_stale new.core.status.wanted p) → IsTrue (calls_stale old.core.status.wanted p) ⊎ S p ⊎ WasLeftBehind N F old new p
  pub dirty : (lv : ℕ) → (D lv → ⊥) → calls_dirty new.core.status.wanted lv ≡ calls_dirty old.core.status.wanted lv
  pub stays : (d : ℕ) → IsTrue (calls_missing old.core.status.wanted d) → IsTrue (calls_missing new.core.status.wanted d)
  pub lost : (d : ℕ) → IsTrue (calls_missing new.core.status.wanted d) → IsFalse (calls_missing old.core.status.wanted d)
      → IsTrue (is_there old.core d) × Rose (old.device.counts.faults d) (new.device.counts.faults d)

-- ---- what was entered

-- the entry says that a volume is made or removed
abbrev pub is_of_volume : Fact → Bool
is_of_volume (Making lv blocks mode) = true
is_of_volume (Made lv) = true
is_of_volume (Split from lv) = true
is_of_volume (Removing (Lv lv)) = true
is_of_volume (Removed (Lv lv)) = true
is_of_volume other = false

-- such entries were entered
abbrev pub EntersVolumes : List Fact → List Fact → Type 0
EntersVolumes old new = count_by is_of_volume old < count_by is_of_volume new

-- the history has the room and the volumes' entries that it had, and no moment at which a group was varied on was entered
pub record KeepsHistory (was is : Log) : Type 0 where
  pub room : record is { facts = [] } ≡ record was { facts = [] }
  pub volumes : count_by is_of_volume was.facts ≤ count_by is_of_volume is.facts
  pub later : (moment : ℕ) → IsLater was.facts moment → IsLater is.facts moment

-- ---- what is found

-- a quorum of some crash image finds this descriptor
abbrev pub MayBeFound : Device → ℕ → Descriptor → Type 0
MayBeFound device id k = (image : Image) × MayLeave device image × IsFound (contents_of image) id k

-- Whatever may be found might be found before, or is a descriptor of which this holds, where the disks hold what the session says.
abbrev pub FindsOnly : (Descriptor → Type 0) → State → State → Type 0
FindsOnly N old new = IsHeld old.device old.core → (id : ℕ) (k : Descriptor) → MayBeFound new.device id k → MayBeFound old.device id k ⊎ ((id ≡ k.id) × N k)

-- ---- all of it

-- What a call leaves that may do this, with the patience before and after, whatever its answer.
pub record Leaves (scope : Scope) (before after : ℕ) (old new : State) : Type 0 where
  pub writes : KeepsShelf (is_there old.core) (IsOfCommand scope.next scope.zeros old new) old.device new.device
  pub status : KeepsStatus scope.next scope.stale scope.fresh scope.marks old new
  -- the stamps are of the same session, and rise
  pub numbers : SpendsNumbers scope.numbers old.core.status new.core.status
  pub history : KeepsHistory old.core.history new.core.history
  -- a span that leads here goes on, where the disks hold what the session says by whatever was told before it
  pub spans : (run : ℕ) (first : Moment) → IsHeldSince run first old → scope.lets old new run first → SpanGoesOn run first (moment_of old) (moment_of new)
  pub finds : FindsOnly scope.next old new
  -- no write is open that wasn't, and the disks stay behind the clock
  pub calm : StaysCalm (moment_of old) (moment_of new)
  pub behind : StaysBehind old new
  pub falls : NoneFalls old.device.counts new.device.counts
  pub spends : Spends before after old.device new.device
