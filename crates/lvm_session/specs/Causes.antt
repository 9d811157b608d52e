-- Why transfers failed, disks are missing and copies stale: by counts of faults that rose.
use Rattle.std.specs.Prelude.{IfSome, ◌≡◌, ◌⊎◌, ◌≤◌, ◌-◌, ◌&&◌, ◌||◌, not, ℕ, Bool, true, false, List, Some, slice_index_or}
use Rattle.std.specs.List.{list_any, AllByRecursion}
use Rattle.lvm_num.specs.declared.place.Pp.{Pp}
use Rattle.lvm_num.specs.Disks.{has}
use Rattle.lvm_num.specs.Status.{calls_stale, calls_missing}
use Rattle.lvm_num.specs.Votes.{votes_in, is_enough_to_write}
use Rattle.lvm_num.specs.Descriptor.{is_pp}
use Rattle.lvm_status.specs.Update.{members_there}
use Rattle.lvm_status.specs.Members.{HasItsRows}
use Rattle.lvm_kept.specs.passed.Disk.{Rose, Device}
use Rattle.lvm_kept.specs.passed.Vol.{Outcome}
use Rattle.lvm_kept.specs.passed.VolEntryOutcome as outcome
use Rattle.lvm_path.specs.declared.target.Target.{Target}
use Rattle.lvm_path.specs.Asks.{is_write}
use Rattle.lvm_path.specs.Targets.{is_failed}
use Rattle.lvm_session.specs.declared.open.Open.{Open}
use Rattle.lvm_session.specs.declared.open.Power.{Power}
use Rattle.lvm_session.specs.declared.open.Power.TheVariants as power
use Rattle.lvm_session.specs.declared.bringing.OpenCopy.{OpenCopy}
use Rattle.lvm_session.specs.declared.bringing.CopyEnd.TheVariants as ending
use Rattle.lvm_session.specs.State.{Core, State}
use Rattle.lvm_session.specs.Judging.{is_waiting, copies_in, copies_for, is_missing, is_wanted_stale, is_sure}
pub use Rattle.lvm_session.specs.Judging.{is_held_stale}
use Rattle.lvm_session.specs.Enabled.{is_lost}
use Rattle.lvm_session.specs.Calls.{copy_at}

-- ---- since the session began

-- how many transfers of the disk had failed when the session began
abbrev pub faults_at_first : Core → ℕ → ℕ
faults_at_first core disk = slice_index_or core.origin.faults disk 0

-- a transfer of the disk has failed since the session began
abbrev pub FailedSince : State → ℕ → Type 0
FailedSince s disk = Rose (faults_at_first s.core disk) (s.device.counts.faults disk)

-- so it is of some disk
abbrev pub AnyFailedSince : State → Type 0
AnyFailedSince s = (disk : ℕ) × FailedSince s disk

-- a copy that was fresh when the session began
abbrev pub was_fresh : Core → Pp → Bool
was_fresh core p = not (calls_stale core.origin.table p)

-- a copy that could be used then
abbrev pub was_usable : Core → Pp → Bool
was_usable core p = was_fresh core p && not (calls_missing core.origin.table p.disk)

-- The session began with votes enough to write, and what it tells of its disks came with them or by a fault since.
pub record IsTrueToOrigin (s : State) : Type 0 where
  pub since : (disk : ℕ) → faults_at_first s.core disk ≤ s.device.counts.faults disk
  pub votes : is_enough_to_write s.core.descriptor (votes_in s.core.descriptor (members_there s.core.descriptor s.core.origin.table)) ≡ true
  -- its table has a row for exactly the members (else the destination of a move, on a disk without one, couldn't count as stale there from the opening on)
  pub rows : HasItsRows s.core.descriptor s.core.origin.table
  pub still_missing : (disk : ℕ) → calls_missing s.core.origin.table disk ≡ true → is_missing s.core disk ≡ true
  pub missing : (disk : ℕ) → is_missing s.core disk ≡ true → (calls_missing s.core.origin.table disk ≡ true) ⊎ FailedSince s disk
  pub stale : (p : Pp) → is_held_stale s.core p || is_wanted_stale s.core p ≡ true
      → (calls_stale s.core.origin.table p ≡ true) ⊎ (is_missing s.core p.disk ≡ true) ⊎ FailedSince s p.disk

-- ---- since a target was chosen

-- the count of faults that a target keeps of its disk is one between the beginning of the session and now
pub record IsCounted (s : State) (t : Target) : Type 0 where
  pub began : faults_at_first s.core t.pp.disk ≤ t.faults
  pub since : t.faults ≤ s.device.counts.faults t.pp.disk

-- so it is for each target, also once the request has landed
abbrev pub AreCounted : State → Open → Type 0
AreCounted s o = AllByRecursion (IsCounted s) o.request.targets.items

-- the disk of the target has failed since it was chosen
abbrev pub TargetHasFailed : Device → Target → Type 0
TargetHasFailed device t = Rose t.faults (device.counts.faults t.pp.disk)

-- a write that hasn't landed has failed on this partition
abbrev pub fails_on : Pp → Open → Bool
fails_on p o = is_waiting o && is_write o.request.ask && list_any (λ (t : Target). is_failed t.state && is_pp p t.pp) o.request.targets.items

-- Something is held against the copy that was fresh when it was chosen: its disk is missing, it is wanted stale or stale, or some write has failed on it.
abbrev pub is_blamed : Core → Pp → Bool
is_blamed core p = is_missing core p.disk || is_wanted_stale core p || is_held_stale core p || list_any (fails_on p) core.requests

-- What is held against a target of a request that hasn't landed came by a fault of its disk since it was chosen.
abbrev pub IsCaused : Device → Core → Target → Type 0
IsCaused device core t = is_failed t.state || (t.usable && is_blamed core t.pp) ≡ true → TargetHasFailed device t

-- so it is for each target, until the request lands
abbrev pub AreCaused : Device → Core → Open → Type 0
AreCaused device core o = is_waiting o ≡ true → AllByRecursion (IsCaused device core) o.request.targets.items

-- ---- since the copy was opened

-- how many transfers had failed, when the copy was opened, on the disk of the copy of this number, from 1
abbrev pub faults_at_opening : OpenCopy → ℕ → ℕ
faults_at_opening c number = slice_index_or c.faults (number - 1) 0

-- and on its own disk
abbrev pub own_faults : OpenCopy → ℕ
own_faults c = slice_index_or c.faults 3 0

-- that one has failed since
abbrev pub OwnFailedSinceOpening : Device → OpenCopy → Type 0
OwnFailedSinceOpening device c = Rose (own_faults c) (device.counts.faults c.pp.disk)

-- the disk of this copy of the logical partition has failed since
abbrev pub FailedSinceOpening : Device → OpenCopy → ℕ → Pp → Type 0
FailedSinceOpening device c number p = Rose (faults_at_opening c number) (device.counts.faults p.disk)

-- A target that was chosen after the opening has at least the faults that its disk had then.
abbrev pub IsChosenSince : Core → OpenCopy → Open → Type 0
IsChosenSince core c o = is_waiting o ≡ true → o.older ≡ false → (number : ℕ) (p : Pp) → copy_at (copies_in core.descriptor c.lv c.lp) number ≡ Some p
    → AllByRecursion (λ (t : Target). (t.pp ≡ p → faults_at_opening c number ≤ t.faults) × (t.pp ≡ c.pp → own_faults c ≤ t.faults)) o.request.targets.items

-- the disk of each other copy that is sure, and isn't missing, has failed since the opening; and some other copy's has
pub record HaveSourcesFailed (s : State) (copies : List Pp) (c : OpenCopy) : Type 0 where
  pub each : (number : ℕ) (p : Pp) → copy_at copies number ≡ Some p → not (is_pp p c.pp) && is_sure s.core p && not (is_missing s.core p.disk) ≡ true → FailedSinceOpening s.device c number p
  pub number : ℕ
  pub source : Pp
  pub source_is : copy_at copies number ≡ Some source
  pub other : is_pp source c.pp ≡ false
  pub one : FailedSinceOpening s.device c number source

-- The disks of the copies that were tried in vain have failed since the copy was opened; so has its own, or that of each source, where it ended as failed.
pub record IsCausedAmong (s : State) (copies : List Pp) (c : OpenCopy) : Type 0 where
  pub began : (number : ℕ) (p : Pp) → copy_at copies number ≡ Some p → faults_at_first s.core p.disk ≤ faults_at_opening c number
  pub since : (number : ℕ) (p : Pp) → copy_at copies number ≡ Some p → faults_at_opening c number ≤ s.device.counts.faults p.disk
  pub tried : (number : ℕ) (p : Pp) → copy_at copies number ≡ Some p → has c.tried p.disk ≡ true → FailedSinceOpening s.device c number p
  pub own_began : faults_at_first s.core c.pp.disk ≤ own_faults c
  pub own_since : own_faults c ≤ s.device.counts.faults c.pp.disk
  pub failed : c.end ≡ Some ending.SyncFailed → OwnFailedSinceOpening s.device c ⊎ HaveSourcesFailed s copies c

-- ---- why requests landed

-- the session is over
abbrev pub is_over : Power → Bool
is_over power.On = false
is_over power.Off = true
is_over power.Dark = true
is_over power.Stuck = false

-- there was a target that could be used
abbrev pub had_usable : Open → Bool
had_usable o = list_any (λ (t : Target). t.usable) o.request.targets.items

-- Why a request landed so: as Lost since each copy that was fresh at its admission has failed since, as ReadFailed since each that it tried did,
-- as NoFresh since some disk failed or no copy was usable when the session began, and as Off since the votes are lost.
abbrev pub IsLandedFor : State → Open → Outcome → Type 0
IsLandedFor s o outcome.Done = Unit {0}
IsLandedFor s o outcome.Got = Unit {0}
IsLandedFor s o outcome.Lost = (had_usable o ≡ true) × AllByRecursion (λ (t : Target). t.usable ≡ true → TargetHasFailed s.device t) o.request.targets.items
IsLandedFor s o outcome.ReadFailed = (had_usable o ≡ true) × AllByRecursion (λ (t : Target). (is_failed t.state ≡ true) × TargetHasFailed s.device t) o.request.targets.items
IsLandedFor s o outcome.NoFresh = AnyFailedSince s ⊎ (list_any (was_usable s.core) (copies_for s.core o.request.ask) ≡ false)
IsLandedFor s o outcome.Off = (is_over s.core.power ≡ true) × (is_lost s.core ≡ true)
IsLandedFor s o outcome.Dark = s.core.power ≡ power.Dark

abbrev pub IsAnswered : State → Open → Type 0
IsAnswered s o = IfSome o.landed (IsLandedFor s o)
