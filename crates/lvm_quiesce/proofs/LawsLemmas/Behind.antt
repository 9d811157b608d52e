-- Stamps on crash images.
use Rattle.std.proofs.Common.{ℕ, List}
use Rattle.lvm_disk.specs.Device.{Device}
use Rattle.lvm_disk.specs.Images.{LeavesNoMore}
use Rattle.lvm_vol.specs.Facts.{Fact}
use Rattle.lvm_steps.specs.Behind.{beginning_at, ClockIsAhead}
use Rattle.lvm_steps.proofs.LawsLemmas.Stamps.{later_is_after_too, session_is_from_moment}
use Rattle.lvm_steps.proofs.LawsLemmas.Shelves.{still_keeps_before, left_is_before}
use Rattle.lvm_quiesce.specs.Behind.{IsBehindEach, ClockIsAheadEach}
use Rattle.lvm_quiesce.specs.Laws.{EndsStayBehind, StillIsBehindEach, EachIsBehind, LaterIsBehindEach, StillIsAheadEach, QuietIsAhead}
use Rattle.lvm_quiesce.proofs.LawsLemmas.Ending.{ends_leave, ends_leave_no_more}

-- where no crash image is added, stamps stay before a moment
pub fewer_stay_behind : (old new : Device) (moment : ℕ) → LeavesNoMore old new → IsBehindEach moment old → IsBehindEach moment new
fewer_stay_behind old new moment fewer behind image may = behind image (fewer image may)

pub ends_stay_behind : EndsStayBehind
ends_stay_behind patience old new how gives moment = fewer_stay_behind old new moment (ends_leave_no_more patience old new how gives)

pub still_is_behind_each : StillIsBehindEach
still_is_behind_each moment device none = still_keeps_before (beginning_at moment) device none

pub each_is_behind : EachIsBehind
each_is_behind moment device = left_is_before (beginning_at moment) device

pub later_is_behind_each : LaterIsBehindEach
later_is_behind_each moment later device le behind image may = later_is_after_too (beginning_at moment) (beginning_at later) image (session_is_from_moment moment (beginning_at later) le) (behind image may)

pub still_is_ahead_each : StillIsAheadEach
still_is_ahead_each run moment device facts none clock early =
    let ahead = clock early in
    record { run_is = ahead.run_is; later = ahead.later; behind = still_is_behind_each moment device none ahead.behind }

-- a clock that is ahead of each crash image is so of the media, once no more of them may be left
pub fewer_is_ahead : (run moment : ℕ) (old new : Device) (facts : List Fact) → LeavesNoMore old new → ClockIsAheadEach run moment old facts → ClockIsAhead run moment new facts
fewer_is_ahead run moment old new facts fewer clock early =
    let ahead = clock early in
    record { run_is = ahead.run_is; later = ahead.later; behind = each_is_behind moment new (fewer_stay_behind old new moment fewer ahead.behind) }

pub quiet_is_ahead : QuietIsAhead
quiet_is_ahead run moment old new facts quiet = fewer_is_ahead run moment old new facts (ends_leave quiet.ends)
