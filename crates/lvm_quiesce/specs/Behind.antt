-- Moments and the stamps on crash images, also while transfers are out.
use Rattle.std.specs.Prelude.{ℕ, ◌<◌, ◌≤◌, ◌-◌, ◌^◌, List}
use Rattle.lvm_disk.specs.Device.{Device}
use Rattle.lvm_vol.specs.Facts.{Fact}
use Rattle.lvm_vol.specs.Legal.{IsLater}
use Rattle.lvm_steps.specs.Behind.{beginning_at}
use Rattle.lvm_steps.specs.Laws.{LeavesBefore}

-- what stands on each crash image is of sessions from before this moment
abbrev pub IsBehindEach : ℕ → Device → Type 0
IsBehindEach moment device = LeavesBefore (beginning_at moment) device

-- A moment that is later than each at which a group was varied on, in this run and before it, and than what stands on each crash image.
pub record IsAheadEach (run moment : ℕ) (device : Device) (facts : List Fact) : Type 0 where
  pub run_is : run ≤ moment
  pub later : IsLater facts moment
  pub behind : IsBehindEach moment device

-- What a clock answers whose moments rise is such a moment, unless it is the last one that there is.
abbrev pub ClockIsAheadEach : ℕ → ℕ → Device → List Fact → Type 0
ClockIsAheadEach run moment device facts = moment < 2 ^ 64 - 1 → IsAheadEach run moment device facts
