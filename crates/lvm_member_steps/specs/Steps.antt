-- One step of a group on its way to fewer members, and how it ends.
use Rattle.std.specs.Prelude.{◌≡◌, ◌⊎◌, ℕ, List, [], ◌∷◌, Option, Result, Ok, Err, IsTrue, IsFalse}
use Rattle.lvm_num.specs.declared.descriptor.Descriptor.{Descriptor}
use Rattle.lvm_num.specs.Disks.{Disks}
use Rattle.lvm_num.specs.Votes.{votes_in, total_votes, is_enough_to_write}
use Rattle.lvm_disk.specs.Counts.{NoneFalls}
use Rattle.lvm_disk.specs.Device.{IsReady}
use Rattle.lvm_vol.specs.declared.entry.Vol.TheVariants.{Disk}
use Rattle.lvm_vol.specs.Facts.{Fact, Removed}
use Rattle.lvm_vol.specs.Log.{Log, with_fact}
use Rattle.lvm_kept.specs.Moments.{Moment, StaysCalm}
use Rattle.lvm_commit.specs.passed.Steps.{RunBegins, SpanGoesOn}
use Rattle.lvm_commit.specs.Settling.{SpendsNumbers}
use Rattle.lvm_write.specs.Parts.{Spends}
use Rattle.lvm_write.specs.Written.{KeepsShelf}
use Rattle.lvm_session.specs.declared.open.Power.TheVariants as power
use Rattle.lvm_session.specs.State.{State, is_there, moment_of}
use Rattle.lvm_core.specs.declared.fault.CommitFault.{CommitFault}
use Rattle.lvm_core.specs.declared.fault.CommitFault.TheVariants as fault
use Rattle.lvm_core.specs.Committing.{HasGoneDark, IsLeftOut, StaysBehind, is_in}
use Rattle.lvm_core.specs.Leaves.{KeepsHistory, IsHeldSince, FindsOnly}
use Rattle.lvm_core.specs.Settled.{IsSettled}
use Rattle.lvm_volume_plan.specs.PlannedVolume.{AreOfOneGroup}
use Rattle.lvm_volumes.specs.Endings.{StillHeld, KeepsFresh}
use Rattle.lvm_turnover.specs.declared.change.Leaving.{Leaving}
use Rattle.lvm_turnover.specs.Changing.{HasGoneOffBy, among, IsOfChange, KeepsMarks}
use Rattle.lvm_turnover.specs.Turning.{core_after}
use Rattle.lvm_member_plan.specs.Descriptors.{IsReducedBy, IsOnTheWay}

-- The members that aren't missing have these votes by the next descriptor, too few to write: the session has gone off, and nothing was written.
pub record WentOffAtOnce (next : Descriptor) (have total : ℕ) (old new : State) : Type 0 where
  pub have_is : have ≡ votes_in next (is_there old.core)
  pub total_is : total ≡ total_votes next
  pub few : IsFalse (is_enough_to_write next have)
  pub is : new ≡ record { device = old.device; core = record old.core { power = power.Off } }

-- ---- as far as it went

-- the history with an entry for each of these disks, that it is a raw one
abbrev pub with_removed : List ℕ → Log → Log
with_removed [] log = log
with_removed (disk ∷ disks) log = with_removed disks (with_fact log (Removed (Disk disk)))

-- The session came so far on the way to a group without these members, with the patience before and then. It is at rest, and has entered that some of their disks are raw ones, of which
-- this holds.
pub record HasComeSoFar (raw : Disks) (disks : List ℕ) (patience left : ℕ) (old mid : State) : Type 0 where
  pub is : mid.core ≡ record old.core {
    descriptor = mid.core.descriptor;
    status = mid.core.status;
    homes = mid.core.homes;
    cache = mid.core.cache;
    origin = mid.core.origin;
    history = mid.core.history;
  }
  pub descriptor : IsOnTheWay disks old.core.descriptor mid.core.descriptor
  pub entered : List ℕ
  pub among : (x : ℕ) → IsTrue (is_in entered x) → IsTrue (is_in disks x) × IsTrue (raw x)
  pub history : mid.core.history ≡ with_removed entered old.core.history
  -- nobody is there who wasn't
  pub before : (d : ℕ) → IsTrue (is_there mid.core d) → IsTrue (is_there old.core d)
  pub ready : IsReady mid.device
  pub cuts : mid.device.counts.cuts ≡ old.device.counts.cuts
  pub falls : NoneFalls old.device.counts mid.device.counts
  pub spends : Spends patience left old.device mid.device

-- disks that were those of members which weren't missing
abbrev pub HasComeTo : List ℕ → ℕ → ℕ → State → State → Type 0
HasComeTo disks patience left old mid = HasComeSoFar (is_there old.core) disks patience left old mid

-- Too few members were reached for one descriptor on the way, since a transfer to one failed, and the session went off with one.
pub record WentOffBetween (disks : List ℕ) (have total : ℕ) (old mid new : State) : Type 0 where
  pub by : Descriptor
  pub has : Descriptor
  pub by_is : IsOnTheWay disks old.core.descriptor by
  pub has_is : IsOnTheWay disks old.core.descriptor has
  pub off : HasGoneOffBy by has have total mid new

-- From there it broke off by this fault: too few members were reached, or too few were there for the next descriptor on the way; the power was cut; or a transfer wasn't heard of.
abbrev pub BreaksFrom : List ℕ → ℕ → State → State → State → CommitFault → Type 0
BreaksFrom disks left old mid new (fault.WentOff have total) = WentOffBetween disks have total old mid new ⊎ ((next : Descriptor) × IsReducedBy disks old.core.descriptor next × WentOffAtOnce next have total mid new)
BreaksFrom disks left old mid new fault.Dark = HasGoneDark mid new
BreaksFrom disks left old mid new fault.Stuck = IsLeftOut left mid new
BreaksFrom disks left old mid new (fault.DiskFailed disk) = ⊥

pub record BreaksOffSoFar (raw : Disks) (disks : List ℕ) (patience : ℕ) (old new : State) (why : CommitFault) : Type 0 where
  pub mid : State
  pub left : ℕ
  pub come : HasComeSoFar raw disks patience left old mid
  pub breaks : BreaksFrom disks left old mid new why

abbrev pub BreaksOff : List ℕ → ℕ → State → State → CommitFault → Type 0
BreaksOff disks patience old new why = BreaksOffSoFar (is_there old.core) disks patience old new why

-- ---- what is left under a premise

-- What a change leaves without disks that join, as of LeavesWithin; a span goes on with it and nothing else is found where this premise holds as well.
pub record LeavesIf (Q : Type 0) (most : ℕ) (N : Descriptor → Type 0) (erases : List ℕ) (before after : ℕ) (old new : State) : Type 0 where
  pub writes : KeepsShelf (among [] (among erases (is_there old.core))) (IsOfChange N [] erases old new) old.device new.device
  pub status : KeepsMarks N [] erases old new
  pub numbers : SpendsNumbers most old.core.status new.core.status
  pub history : KeepsHistory old.core.history new.core.history
  pub spans : (run : ℕ) (first : Moment) → IsHeldSince run first old → ((past : List Fact) → RunBegins run past first → Q) → SpanGoesOn run first (moment_of old) (moment_of new)
  pub finds : Q → FindsOnly N old new
  pub calm : StaysCalm (moment_of old) (moment_of new)
  pub behind : StaysBehind old new
  pub falls : NoneFalls old.device.counts new.device.counts
  pub spends : Spends before after old.device new.device

-- ---- how a step ends

-- The group has turned to this descriptor; the session goes on with it, without the member that leaves.
pub record HasStepped (leaving : Option Leaving) (next : Descriptor) (old new : State) : Type 0 where
  pub settled : IsSettled new.core
  pub group : AreOfOneGroup new.core
  pub is : new.core ≡ record (core_after leaving old.core) { descriptor = next; status = new.core.status; homes = new.core.homes }
  pub before : (d : ℕ) → IsTrue (is_there new.core d) → IsTrue (is_there old.core d)
  pub ready : IsReady new.device
  pub cuts : new.device.counts.cuts ≡ old.device.counts.cuts
  pub still : StillHeld old new
  pub fresh : KeepsFresh old new

-- what it answers
abbrev pub StepEnds : Option Leaving → Descriptor → ℕ → State → State → Result (Unit {0}) CommitFault → Type 0
StepEnds leaving next patience old new (Ok done) = HasStepped leaving next old new
StepEnds leaving next patience old new (Err why) = (disks : List ℕ) → IsReducedBy disks old.core.descriptor next → BreaksOff disks patience old new why
