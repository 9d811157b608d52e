-- How the copy that is open ends.
use Rattle.std.specs.Prelude.{◌≡◌, ℕ, true, false, Option, Some, None, IfSome, is_some, if◌then◌else◌}
use Rattle.lvm_num.specs.Buffer.{Buffer}
use Rattle.lvm_hold.specs.Waiting.{Waiting, without}
use Rattle.lvm_status.specs.Calls.{IsMarkable}
use Rattle.lvm_status.specs.Runs.{IsSoundStatus}
use Rattle.lvm_status.specs.Update.{seen}
use Rattle.lvm_session.specs.declared.bringing.OpenCopy.{OpenCopy}
use Rattle.lvm_session.specs.declared.bringing.CopyEnd.{CopyEnd}
use Rattle.lvm_session.specs.declared.bringing.Step.{Step}
use Rattle.lvm_session.specs.declared.bringing.Step.TheVariants as step
use Rattle.lvm_session.specs.State.{Core}
use Rattle.lvm_num.specs.declared.place.Pp.{Pp}
use Rattle.lvm_num.specs.Descriptor.{is_pp}
use Rattle.lvm_session.specs.Bringing.{hand_of, is_out, marked_by_end, with_copy_end}
use Rattle.lvm_session.specs.Hands.{IsOutIf}

-- what the copy that is open has in hand is out, and its partition can be marked
pub record CanEnd (core : Core) (c : OpenCopy) : Type 0 where
  pub hand : IsOutIf core.pool (hand_of c.step)
  pub markable : IsMarkable core.status.wanted c.pp

-- The copy that is open, if one is, can end.
pub record MayEndCopy (core : Core) : Type 0 where
  pub sound : IsSoundStatus (seen core.status)
  pub copy : IfSome core.copy (CanEnd core)

-- what it gives up: what it has in hand, and its place in the queue where no transfer of it is out
abbrev pub GivesUp : OpenCopy → CopyEnd → Option OpenCopy → Option Buffer → Option ℕ → Type 0
GivesUp c how new hand place = (new ≡ Some (with_copy_end c how)) × (hand ≡ hand_of c.step) × (place ≡ (if is_out c.step then None else Some c.place))

-- the partition that is to be stale again is that of the copy, or there is none
abbrev pub Unclears : Core → CopyEnd → Option Pp → Type 0
Unclears core how None = (p : Pp) → marked_by_end core (Some how) p ≡ false
Unclears core how (Some pp) = ((p : Pp) → marked_by_end core (Some how) p ≡ is_pp p pp) × ((c : OpenCopy) → core.copy ≡ Some c → pp ≡ c.pp) × (is_some core.copy ≡ true)

-- the step of one that ends, and what it gives up
abbrev pub LeavesStep : Step → ℕ → Step → Option Buffer → Option ℕ → Type 0
LeavesStep old place new hand left = (new ≡ (if is_out old then old else step.Idle)) × (hand ≡ hand_of old) × (left ≡ (if is_out old then None else Some place))

-- the row at this place has left the queue
abbrev pub left_by : Waiting → Option ℕ → Waiting
left_by queue None = queue
left_by queue (Some place) = record queue { rows = without place queue.rows }
