-- How the calls end by which a session commits a descriptor or marks.
use Rattle.std.specs.Prelude.{◌≡◌, ◌⊎◌, ℕ, ◌<◌, ◌==◌, Bool, true, false, ◌&&◌, ◌||◌, ◌++◌, not, List, Contains, Result, Ok, Err, IsTrue, IfSome, All, slice_set}
use Rattle.std.specs.List.{list_any}
use Rattle.lvm_num.specs.declared.place.Pp.{Pp}
use Rattle.lvm_num.specs.declared.descriptor.Mode.TheVariants.{Passive}
use Rattle.lvm_num.specs.declared.descriptor.LvRow.{LvRow}
use Rattle.lvm_num.specs.declared.descriptor.Descriptor.{Descriptor}
use Rattle.lvm_num.specs.declared.status.Status.{Status}
use Rattle.lvm_num.specs.declared.record.Kind.TheVariants as kind
use Rattle.lvm_num.specs.Descriptor.{IsPartitionOf}
use Rattle.lvm_num.specs.DescriptorBytes.{descriptor_bytes}
use Rattle.lvm_num.specs.Status.{calls_stale, calls_dirty}
use Rattle.lvm_disk.specs.Device.{IsReady, image_of}
use Rattle.lvm_vol.specs.Facts.{Fact}
use Rattle.lvm_kept.specs.Contents.{contents_of}
use Rattle.lvm_kept.specs.Group.{IsOneOf}
use Rattle.lvm_kept.specs.Moments.{Moment}
use Rattle.lvm_commit.specs.passed.Steps.{RunBegins, HistoryHolds, StampsAreEarlier}
use Rattle.lvm_write.specs.Written.{IsDarkened, IsGivenUp}
use Rattle.lvm_commit.specs.Committed.{AreOne}
use Rattle.lvm_commit.specs.LawsOfData.{IsFree}
use Rattle.lvm_commit.specs.LawsOfVolumes.{VolumeServes, VolumesServe}
use Rattle.lvm_commit.specs.Settling.{NoneIsLeft, IsPassedOver, HasLostQuorum, AreWell, SpendsNumbers, StaysCommitted, IsPlain}
use Rattle.lvm_core.specs.declared.fault.CommitFault.{CommitFault}
use Rattle.lvm_core.specs.declared.fault.CommitFault.TheVariants as fault
use Rattle.lvm_session.specs.declared.open.Power.TheVariants as power
use Rattle.lvm_session.specs.State.{State}
use Rattle.lvm_session.specs.Dark.{all_dark}
use Rattle.lvm_session.specs.Marks.{is_among}
pub use Rattle.lvm_session.specs.State.{moment_of}
use Rattle.lvm_core.specs.Held.{IsHeld}
use Rattle.lvm_core.specs.Settled.{IsSettled}

-- ---- how they end

-- the first buffer is out
abbrev pub with_one_out : List Bool → List Bool
with_one_out pool = slice_set pool 0 true

-- What is wanted of the status is committed, with this descriptor; nothing is under way, and the disks hold both, where they held what was committed.
pub record HasStated (next : Descriptor) (old new : State) : Type 0 where
  pub settled : IsSettled new.core
  pub is : new.core ≡ record old.core { descriptor = next; status = new.core.status; homes = new.core.homes }
  -- no transfer to a member that isn't missing has failed
  pub well : AreWell new.core.status old.device new.device
  pub ready : IsReady new.device
  pub cuts : new.device.counts.cuts ≡ old.device.counts.cuts
  pub held : IsHeld old.device old.core → IsHeld new.device new.core

-- This descriptor is committed. Where no member became missing its record is all that was written.
pub record HasCommitted (next : Descriptor) (old new : State) : Type 0 where
  pub stated : HasStated next old new
  pub plain : IsPlain kind.Descriptor (descriptor_bytes next) old.core.status new.core.status old.core.homes old.device new.device

-- The members that aren't missing have so many votes of so many, too few to write: the session has gone off, with its descriptor as it was.
pub record HasGoneOff (have total : ℕ) (old new : State) : Type 0 where
  pub lost : HasLostQuorum old.core.status new.core.status old.device new.device have total
  -- no number was spent but for the members that became missing
  pub spent : SpendsNumbers 0 old.core.status new.core.status
  pub is : new.core ≡ record old.core { status = new.core.status; homes = new.core.homes; power = power.Off }
  pub well : AreWell new.core.status old.device new.device
  pub ready : IsReady new.device
  pub cuts : new.device.counts.cuts ≡ old.device.counts.cuts

-- The power was cut in the call: the session has ended, with its descriptor as it was. The buffer that was out is lost, or the shelf still has it.
pub record HasGoneDark (old new : State) : Type 0 where
  pub cut : IsDarkened 0 old.device new.device
  pub is : new.core ≡ all_dark (record old.core { pool = with_one_out old.core.pool; status = new.core.status; homes = new.core.homes })

-- Nothing was heard of a transfer until the patience had run out: it is out, with its buffer, and the descriptor is as it was.
pub record IsLeftOut (patience : ℕ) (old new : State) : Type 0 where
  pub out : IsGivenUp 0 patience old.device new.device
  pub is : new.core ≡ record old.core { pool = with_one_out old.core.pool; status = new.core.status; homes = new.core.homes }

-- how the writing of records ends: well, or by a fault with its cause
abbrev pub RecordsEnd : Type 0 → ℕ → State → State → Result (Unit {0}) CommitFault → Type 0
RecordsEnd Done patience old new (Ok done) = Done
RecordsEnd Done patience old new (Err (fault.WentOff have total)) = HasGoneOff have total old new
RecordsEnd Done patience old new (Err fault.Dark) = HasGoneDark old new
RecordsEnd Done patience old new (Err fault.Stuck) = IsLeftOut patience old new
RecordsEnd Done patience old new (Err (fault.DiskFailed disk)) = ⊥

-- where it fails, what was committed still is, or what a record of the call before its last one committed
abbrev pub FailsCommitted : State → State → Result (Unit {0}) CommitFault → Type 0
FailsCommitted old new (Ok done) = Unit {0}
FailsCommitted old new (Err fault) = StaysCommitted old.core.status new.core.status old.device new.device

-- what a commit answers
abbrev pub CommitEnds : Descriptor → ℕ → State → State → Result (Unit {0}) CommitFault → Type 0
CommitEnds next patience old new answer = RecordsEnd (HasCommitted next old new) patience old new answer

-- what it answers when a status alone is committed
abbrev pub MarkEnds : ℕ → State → State → Result (Unit {0}) CommitFault → Type 0
MarkEnds patience old new answer = RecordsEnd (HasStated old.core.descriptor old new) patience old new answer

-- ---- marks

-- each of the partitions is one of its member that no volume of the group has
abbrev pub AreUnused : Descriptor → List Pp → Type 0
AreUnused d pps = All (λ (p : Pp). IsPartitionOf d p × IsFree d p) pps

-- whether a partition is stale once these are and those aren't
abbrev pub marks_of : List Pp → List Pp → Status → Pp → Bool
marks_of stale fresh old p = (calls_stale old p || is_among stale p) && not (is_among fresh p)

-- these partitions are stale and those fresh, where they weren't, and all other marks are as they were
abbrev pub MarksCopies : List Pp → List Pp → Status → Status → Type 0
MarksCopies stale fresh old new = (p : Pp) → calls_stale new p ≡ marks_of stale fresh old p

-- they already are so
pub record AreMarked (to_stale to_fresh : List Pp) (s : Status) : Type 0 where
  pub stale : All (λ (p : Pp). calls_stale s p ≡ true) to_stale
  pub fresh : All (λ (p : Pp). calls_stale s p ≡ false) to_fresh

-- What is wanted of the status afterwards has these marks, and the copies are stale that members left behind which became missing.
pub record Restates (stale fresh : List Pp) (old new : State) : Type 0 where
  pub kept : (p : Pp) → IsTrue (marks_of stale fresh old.core.status.wanted p) → IsTrue (calls_stale new.core.status.wanted p)
  pub only : (p : Pp) → IsTrue (calls_stale new.core.status.wanted p) → IsTrue (marks_of stale fresh old.core.status.wanted p) ⊎ IsPassedOver old.core.descriptor old.core.status new.core.status p
  pub none : NoneIsLeft old.core.descriptor old.core.status → NoneIsLeft old.core.descriptor new.core.status

-- ---- volumes that are dirty

-- the number is one of these
abbrev pub is_in : List ℕ → ℕ → Bool
is_in numbers lv = list_any (λ n. lv == n) numbers

-- whether a volume is dirty once these are and those aren't
abbrev pub dirt_of : List ℕ → List ℕ → Status → ℕ → Bool
dirt_of dirty clean old lv = (calls_dirty old lv || is_in dirty lv) && not (is_in clean lv)

-- these volumes are dirty and those not, where they weren't, and all others are as they were
abbrev pub Dirties : List ℕ → List ℕ → Status → Status → Type 0
Dirties dirty clean old new = (lv : ℕ) → calls_dirty new lv ≡ dirt_of dirty clean old lv

-- they already are so
pub record AreDirtied (to_dirty to_clean : List ℕ) (s : Status) : Type 0 where
  pub dirty : All (λ (lv : ℕ). calls_dirty s lv ≡ true) to_dirty
  pub clean : All (λ (lv : ℕ). calls_dirty s lv ≡ false) to_clean

-- What is wanted of the status afterwards has these marks, and the copies are stale that members left behind which became missing.
pub record Redirties (dirty clean : List ℕ) (old new : State) : Type 0 where
  pub marks : Dirties dirty clean old.core.status.wanted new.core.status.wanted
  pub kept : (p : Pp) → IsTrue (calls_stale old.core.status.wanted p) → IsTrue (calls_stale new.core.status.wanted p)
  pub only : (p : Pp) → IsTrue (calls_stale new.core.status.wanted p) → IsTrue (calls_stale old.core.status.wanted p) ⊎ IsPassedOver old.core.descriptor old.core.status new.core.status p
  pub none : NoneIsLeft old.core.descriptor old.core.status → NoneIsLeft old.core.descriptor new.core.status

-- The fresh copies of each volume of these numbers are one, by what stands on the media; a number of no volume in mode passive asks nothing.
abbrev pub MayGoClean : List ℕ → State → Type 0
MayGoClean clean s = IfSome s.device.media (λ media. (row : LvRow) → IsOneOf s.core.descriptor.lvs row → row.mode ≡ Passive → Contains clean row.number
    → AreOne (contents_of (image_of s.device.sizes media)) s.core.descriptor s.core.status.committed row)

-- ---- the moments

-- In a history that may have stood before the span, what lets the session's next descriptor be committed: volumes are being made or removed by it, or have other
-- copies; these alone differ,
abbrev pub LetsCommitAmong : (ℕ → Bool) → Descriptor → ℕ → Moment → State → Type 0
LetsCommitAmong among next run first s =
    (past : List Fact) → RunBegins run past first → HistoryHolds past (moment_of s)
    → IfSome s.device.media (λ media. VolumesServe (contents_of (image_of s.device.sizes media)) (past ++ s.core.history.facts) s.core.descriptor among next)

-- or one alone.
abbrev pub LetsCommit : ℕ → Descriptor → ℕ → Moment → State → Type 0
LetsCommit lv next run first s =
    (past : List Fact) → RunBegins run past first → HistoryHolds past (moment_of s)
    → IfSome s.device.media (λ media. VolumeServes (contents_of (image_of s.device.sizes media)) (past ++ s.core.history.facts) s.core.descriptor lv next)

-- what stands on the disks is from before each moment after the session's, where it was
abbrev pub StaysBehind : State → State → Type 0
StaysBehind old new = (moment : ℕ) → old.core.status.stamp.epoch < moment → StampsAreEarlier moment old.device → StampsAreEarlier moment new.device
