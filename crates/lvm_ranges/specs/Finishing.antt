-- A range is waited for, and its answers are taken.
use Rattle.std.specs.Prelude.{◌≡◌, ◌⊎◌, ◌<◌, ◌≤◌, ◌+◌, ◌*◌, ℕ, false, Some, Result, Ok, Err, find, length}
use Rattle.std.specs.List.{list_any}
use Rattle.lvm_disk.specs.Counts.{Rose}
use Rattle.lvm_disk.specs.Device.{Device}
use Rattle.lvm_disk.specs.Paths.{Path}
use Rattle.lvm_num.specs.Votes.{total_votes}
use Rattle.lvm_vol.specs.declared.entry.Outcome.{Outcome}
use Rattle.lvm_vol.specs.declared.entry.Outcome.TheVariants as outcome
use Rattle.lvm_session.specs.declared.open.Open.{Open}
use Rattle.lvm_session.specs.declared.open.Power.TheVariants as power
use Rattle.lvm_session.specs.Calls.{is_asked}
use Rattle.lvm_session.specs.Causes.{AnyFailedSince, IsLandedFor, was_usable}
use Rattle.lvm_session.specs.Judging.{copies_for, copies_in}
use Rattle.lvm_session.specs.Sound.{outcome_in}
use Rattle.lvm_session.specs.State.{Core, State, state, votes_there}
use Rattle.lvm_keeps_events.specs.Losing.{LosesVotesByFaults, LostForFaults}
use Rattle.lvm_driver.specs.Drains.{IsAny, TurnsWhile}
use Rattle.lvm_posts.specs.declared.asked.Asked.{Asked}
use Rattle.lvm_posts.specs.declared.fault.RangeFault.{RangeFault}
use Rattle.lvm_posts.specs.declared.fault.RangeFault.TheVariants as fault
use Rattle.lvm_ranges.specs.Keeping.{KeepsTable}
use Rattle.lvm_ranges.specs.Landing.{AwaitCosts, HavePiecesLanded, IsUnfinished, TurnsFor}
use Rattle.lvm_posts.specs.Deciding.{RangeEnds}
use Rattle.lvm_posts.specs.Pieces.{piece_lp}
use Rattle.lvm_ranges.specs.Taking.{TakesAnswers}

-- Client 1's request of this number has landed so, and the cause of that holds of it.
pub record HasLandedSo (s : State) (id : ℕ) (how : Outcome) : Type 0 where
  pub request : Open
  pub found : find (is_asked 1 id) s.core.requests ≡ Some request
  pub landed : request.landed ≡ Some how
  pub cause : IsLandedFor s request how

-- The answers of a range that has landed are taken, and the first that isn't well decides its own; each has its cause.
pub record TakesRange (asked : Asked) (old new : State) (answer : Result (Unit {0}) RangeFault) : Type 0 where
  pub landed : HavePiecesLanded asked old
  pub shelf : new.device ≡ old.device
  pub takes : TakesAnswers asked.first old.core asked.pieces new.core
  pub fewer : length new.core.requests + asked.pieces ≡ length old.core.requests
  pub power_is : new.core.power ≡ old.core.power
  pub ends : RangeEnds new.core.history.facts asked (votes_there old.core) (total_votes old.core.descriptor) answer
  -- why each piece landed as the history tells
  pub caused : (k : ℕ) (how : Outcome) → k < asked.pieces → outcome_in new.core.history.facts (asked.first + k) ≡ Some how → HasLandedSo old (asked.first + k) how

-- Turns are made until the first moment at which each piece has landed, and its answers are taken; or the patience has run out before. The turns lose the votes
-- by faults alone.
pub data FinishGives (asked : Asked) (left : ℕ) (old new : State) (answer : Result (Unit {0}) RangeFault) : Type 0 where
  Finished : (mid : State) → Path (TurnsFor asked) IsAny old mid → KeepsTable old.core mid.core → LosesVotesByFaults old mid → TakesRange asked mid new answer → FinishGives asked left old new answer
  WasStuck : Path (TurnsFor asked) IsAny old new → KeepsTable old.core new.core → IsUnfinished asked new → left ≡ 0 → answer ≡ Err fault.Stuck → FinishGives asked left old new answer

-- The turns before the answers are taken cost what the waiting does; or it has cost all of the patience.
pub data FinishCosts (asked : Asked) (patience left : ℕ) (old new : State) (answer : Result (Unit {0}) RangeFault) : Type 0 where
  TakesBehind : (mid : State) → AwaitCosts asked patience left old mid (Ok tt) → TakesRange asked mid new answer → FinishCosts asked patience left old new answer
  TakesNone : TurnsWhile (IsUnfinished asked) patience old left new → answer ≡ Err fault.Stuck → FinishCosts asked patience left old new answer

-- ---- since it was asked for

-- a transfer of some disk has failed between
abbrev pub AnyFailed : Device → Device → Type 0
AnyFailed old new = (disk : ℕ) × Rose (old.counts.faults disk) (new.counts.faults disk)

-- a transfer has failed on the shelf since the session began, or no copy of the logical partition of a volume could be used then
abbrev pub LacksSource : Core → Device → ℕ → ℕ → Type 0
LacksSource core device lv lp = AnyFailedSince (state device core) ⊎ (list_any (was_usable core) (copies_in core.descriptor lv lp) ≡ false)

-- What a range of a volume that was asked for in this state, and waited for with so much patience left, ended for: the power is off; nothing was heard any more; the votes
-- are lost, with a transfer that failed since the session began, and were lost then, or with one that failed since; a transfer has failed since then; or a logical
-- partition of it lacks a source.
abbrev pub RangeCause : ℕ → ℕ → State → State → RangeFault → Type 0
RangeCause lv left first end fault.Dark = end.core.power ≡ power.Dark
RangeCause lv left first end fault.Stuck = left ≡ 0
RangeCause lv left first end (fault.WentOff have total) = (2 * have ≤ total) × AnyFailedSince end × LostForFaults first end
RangeCause lv left first end fault.Lost = AnyFailed first.device end.device
RangeCause lv left first end fault.ReadFailed = AnyFailed first.device end.device
RangeCause lv left first end (fault.NoFresh lp) = LacksSource first.core end.device lv lp

-- The table has the request of a piece of the range that lies in this logical partition, which landed so, and a transfer has failed since the session began, or no
-- copy of the partition that it is for could be used then.
pub record PieceLacksSource (asked : Asked) (core : Core) (device : Device) (lp : ℕ) : Type 0 where
  pub piece : ℕ
  pub below : piece < asked.pieces
  pub lp_is : lp ≡ piece_lp asked piece
  pub request : Open
  pub found : find (is_asked 1 (asked.first + piece)) core.requests ≡ Some request
  pub landed : request.landed ≡ Some outcome.NoFresh
  pub lacks : AnyFailedSince (state device core) ⊎ (list_any (was_usable core) (copies_for core request.request.ask) ≡ false)

-- What a range of a session that goes on ended for, whose targets were chosen once their disks had at least these faults, and whose answers were taken from this
-- session: a transfer has failed since, or a piece of it lacked a source.
abbrev pub GoingCause : (ℕ → ℕ) → Asked → Core → Device → RangeFault → Type 0
GoingCause faults asked core end fault.Lost = (disk : ℕ) × Rose (faults disk) (end.counts.faults disk)
GoingCause faults asked core end fault.ReadFailed = (disk : ℕ) × Rose (faults disk) (end.counts.faults disk)
GoingCause faults asked core end (fault.NoFresh lp) = PieceLacksSource asked core end lp
GoingCause faults asked core end other = ⊥
