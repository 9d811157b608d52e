-- How one record that a session writes ends, and what the session is then.
use Rattle.std.specs.Prelude.{◌≡◌, ℕ, ◌&&◌, ◌||◌, ◌⊎◌, true, false, List, IsTrue, IsFalse, Some, None}
use Rattle.std.specs.List.{list_any}
use Rattle.lvm_num.specs.declared.record.Kind.{Kind}
use Rattle.lvm_num.specs.declared.place.Pp.{Pp}
use Rattle.lvm_num.specs.declared.descriptor.PvRow.{PvRow}
use Rattle.lvm_num.specs.declared.descriptor.Descriptor.{Descriptor}
use Rattle.lvm_num.specs.declared.status.Status.{Status}
use Rattle.lvm_num.specs.Buffer.{Buffer}
use Rattle.lvm_num.specs.Disks.{Disks, has}
use Rattle.lvm_num.specs.Status.{calls_stale, calls_missing}
use Rattle.lvm_num.specs.Votes.{votes_in, total_votes, is_enough_to_write, CanWrite}
use Rattle.lvm_disk.specs.Device.{Device, IsReady}
use Rattle.lvm_kept.specs.Torn.{RecordWrite, IsOfRecord}
use Rattle.lvm_status.specs.passed.Status.{SameStale, IsLeftIn, MarksLost}
use Rattle.lvm_status.specs.Update.{Stored, no_disks}
use Rattle.lvm_rec.specs.declared.homes.Homes.{Homes}
use Rattle.lvm_rec.specs.Homes.{Flips}
use Rattle.lvm_write.specs.declared.write.Wrote.{Wrote}
use Rattle.lvm_write.specs.Writes.{RecordWritesEnd, DiskWritesLeave}
use Rattle.lvm_write.specs.Written.{write_of, EndsOn, StandsTold, written_well, IsDarkened, IsGivenUp}
use Rattle.lvm_commit.specs.declared.commit.CommitEnd.{CommitEnd}
use Rattle.lvm_commit.specs.declared.commit.CommitEnd.TheVariants as commit_end
use Rattle.lvm_commit.specs.Committed.{next_stamp}
use Rattle.lvm_commit.specs.Settling.{there, IsForgotten, NoneIsLeft, HasSameRows, IsOfStatus, StatusFindsNothingNew, StatusStaysKept, CommitLeaves, StatusEnds}

-- ---- the session

-- some of these disks become missing, and nothing else changes in what is wanted
pub record Misses (failed : Disks) (old new : Status) : Type 0 where
  pub rows : HasSameRows old new
  pub stale : SameStale old new
  pub dirty : new.dirty ≡ old.dirty
  pub missing : (d : ℕ) → calls_missing new d ≡ (calls_missing old d || failed d)
  pub same : ((d : ℕ) → IsFalse (failed d)) → new ≡ old

-- So it is, and further partitions may become stale.
pub record LosesMembers (failed : Disks) (old new : Status) : Type 0 where
  pub rows : HasSameRows old new
  pub stale : (p : Pp) → IsTrue (calls_stale old p) → IsTrue (calls_stale new p)
  pub dirty : new.dirty ≡ old.dirty
  pub missing : (d : ℕ) → calls_missing new d ≡ (calls_missing old d || failed d)
  pub same : ((d : ℕ) → IsFalse (failed d)) → new ≡ old

-- where a member is one of these disks, the copies of the group's volumes that are left behind are wanted stale, and nothing else changes
pub record HasMarked (group : Descriptor) (failed : Disks) (first last : Stored) : Type 0 where
  pub rest : last ≡ record first { wanted = last.wanted }
  pub unmarked : list_any (λ (row : PvRow). failed row.disk) group.pvs ≡ false → last.wanted ≡ first.wanted
  pub marked : list_any (λ (row : PvRow). failed row.disk) group.pvs ≡ true → MarksLost (there first) (IsLeftIn (there first) first.wanted group.lvs) first.wanted last.wanted

-- One record leaves none behind where none was, only what is left behind becomes stale, and its writes are forgotten once none is in flight.
pub record MarksRound (group : Descriptor) (first last : Stored) : Type 0 where
  pub none : NoneIsLeft group first → NoneIsLeft group last
  pub only : (p : Pp) → IsTrue (calls_stale last.wanted p) → IsTrue (calls_stale first.wanted p) ⊎ IsLeftIn (there last) last.wanted group.lvs p
  pub forgotten : IsForgotten first → IsForgotten last

-- this status is committed once members with votes enough to write have the record, and else what was still is
abbrev pub CommitsRound : Status → Stored → Stored → CommitEnd → Type 0
CommitsRound next first last (commit_end.Done buf) = (last.in_flight ≡ None) × (last.committed ≡ next)
CommitsRound next first last (commit_end.WentOff have total buf) = last.committed ≡ first.committed
CommitsRound next first last commit_end.Dark = last.committed ≡ first.committed
CommitsRound next first last commit_end.Stuck = last.committed ≡ first.committed

-- What is in flight behind one record is what was wanted, and what is committed that or what was; and what was wanted stale is.
pub record HoldsRound (first last : Stored) : Type 0 where
  pub in_flight : (last.in_flight ≡ Some first.wanted) ⊎ (last.in_flight ≡ None)
  pub committed : (last.committed ≡ first.committed) ⊎ (last.committed ≡ first.wanted)
  pub stale : (p : Pp) → calls_stale first.wanted p ≡ true → calls_stale last.wanted p ≡ true

-- what is wanted is in flight, and no write of it has started
pub record IsInFlight (u : Stored) : Type 0 where
  pub flies : u.in_flight ≡ Some u.wanted
  pub unstarted : has u.writes.unstarted ≡ there u
  pub started : has u.writes.started ≡ no_disks
  pub written : has u.writes.written ≡ no_disks
  pub failed : has u.writes.failed ≡ no_disks

-- what was wanted is in flight, under the next stamp
pub record Starts (first last : Stored) : Type 0 where
  pub group : last.group ≡ first.group
  pub wanted : last.wanted ≡ first.wanted
  pub committed : last.committed ≡ first.committed
  pub stamp : last.stamp ≡ next_stamp first.stamp
  pub started : IsInFlight last

-- The writes of the update in flight have ended, on these disks badly: it is committed exactly where the other members have votes enough to write.
pub record UpdateHasEnded (failed : Disks) (first last : Stored) : Type 0 where
  pub group : last.group ≡ first.group
  pub stamp : last.stamp ≡ first.stamp
  pub wanted : Misses (λ d. there first d && failed d) first.wanted last.wanted
  pub committed : CanWrite last.group (there last) → (last.in_flight ≡ None) × (last.committed ≡ first.wanted)
  pub short : IsFalse (is_enough_to_write last.group (votes_in last.group (there last))) → last.committed ≡ first.committed
  pub flown : (last.in_flight ≡ Some first.wanted) ⊎ (last.in_flight ≡ None)
  pub forgotten : IsForgotten last

-- the disks are wanted missing
pub record HasLost (failed : Disks) (first last : Stored) : Type 0 where
  pub group : last.group ≡ first.group
  pub stamp : last.stamp ≡ first.stamp
  pub committed : last.committed ≡ first.committed
  pub idle : last.in_flight ≡ None
  pub wanted : Misses failed first.wanted last.wanted
  pub forgotten : IsForgotten first → IsForgotten last

-- ---- the answers

-- these are the votes of the members that aren't missing and of all, and too few to write
pub record HasFew (u : Stored) (have total : ℕ) : Type 0 where
  pub have_is : have ≡ votes_in u.group (there u)
  pub total_is : total ≡ total_votes u.group
  pub few : IsFalse (is_enough_to_write u.group have)

-- the members that aren't missing have votes enough to write, or they don't
abbrev pub IsByVotes : Stored → Buffer → CommitEnd → Type 0
IsByVotes u buf (commit_end.Done back) = (back ≡ buf) × CanWrite u.group (there u)
IsByVotes u buf (commit_end.WentOff have total back) = (back ≡ buf) × HasFew u have total
IsByVotes u buf commit_end.Dark = ⊥
IsByVotes u buf commit_end.Stuck = ⊥

-- ---- one record

-- the next stamp is that of the record that is written
abbrev pub stamped : Stored → Stored
stamped u = record u { stamp = next_stamp u.stamp }

-- the write of the record to the members that aren't missing, under the session's stamp
abbrev pub session_write : Kind → List ℕ → Stored → Homes → RecordWrite
session_write kind content u homes = write_of kind (record { stamp = u.stamp; content = content }) (there u) homes

-- how the record's write ended, and what it left
pub record IsSent (w : RecordWrite) (number before after : ℕ) (slots next : Homes) (old new : Device) (wrote : Wrote) : Type 0 where
  pub ends : RecordWritesEnd w slots next number before old new wrote
  pub leaves : DiskWritesLeave w.targets (IsOfRecord w) before after old new

-- It was tried on each of them, and those on which it failed are missing.
pub record WasTried (w : RecordWrite) (number : ℕ) (first last : Stored) (slots next : Homes) (old new : Device) (buf : Buffer) : Type 0 where
  pub ready : IsReady new
  pub cuts : new.counts.cuts ≡ old.counts.cuts
  pub number_is : buf.number ≡ number
  pub failed : Disks
  pub each : (d : ℕ) → EndsOn w.targets (StandsTold w) failed old new d
  pub flips : Flips w.kind (written_well w.targets failed) slots next
  pub group : last.group ≡ first.group
  pub stamp : last.stamp ≡ first.stamp
  pub wanted : LosesMembers failed first.wanted last.wanted

-- its group, what is wanted and its stamp are the same
pub record IsSame (first last : Stored) : Type 0 where
  pub group : last.group ≡ first.group
  pub stamp : last.stamp ≡ first.stamp
  pub wanted : last.wanted ≡ first.wanted

abbrev pub HowRecord : RecordWrite → ℕ → ℕ → Stored → Stored → Homes → Homes → Device → Device → CommitEnd → Type 0
HowRecord w number before first last slots next old new (commit_end.Done buf) = WasTried w number first last slots next old new buf × CanWrite last.group (there last)
HowRecord w number before first last slots next old new (commit_end.WentOff have total buf) = WasTried w number first last slots next old new buf × HasFew last have total
HowRecord w number before first last slots next old new commit_end.Dark = IsDarkened number old new × IsSame first last
HowRecord w number before first last slots next old new commit_end.Stuck = IsGivenUp number before old new × IsSame first last

-- how the write of one record ended, and what it did
pub record RecordGives (w : RecordWrite) (number before after : ℕ) (first last : Stored) (slots next : Homes) (old new : Device) (result : CommitEnd) : Type 0 where
  pub leaves : DiskWritesLeave w.targets (IsOfRecord w) before after old new
  pub how : HowRecord w number before first last slots next old new result

-- ---- a status, record by record

-- how the commit of a status ended, and what it did
pub record StatusGives (group : Descriptor) (number before after : ℕ) (first last : Stored) (slots next : Homes) (old new : Device) (result : CommitEnd) : Type 0 where
  pub ends : StatusEnds number before first last slots next old new result
  pub leaves : CommitLeaves group (IsOfStatus first last) before after first last old new
  pub finds : StatusFindsNothingNew first slots old new
  pub kept : StatusStaysKept group first slots old new
