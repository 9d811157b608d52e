-- What a run leaves to the next one, which begins with whatever a loss of power has left.
use Rattle.std.specs.Prelude.{◌≡◌, ℕ, [], List, Some, count_by}
use Rattle.lvm_steps.specs.Behind.{StampsAreEarlier, beginning_at}
use Rattle.lvm_steps.specs.Laws.{LeavesBefore}
use Rattle.lvm_disk.specs.Device.{Media, Device, IsTorn}
use Rattle.lvm_vol.specs.Facts.{Fact, joined}
use Rattle.lvm_vol.specs.Legal.{IsLater, begins_in}
use Rattle.lvm_steps.specs.Moments.{IsEarlier, IsUpheld}

-- The second shelf has as many disks, each as large, nothing is out at it, and on its media stands what a loss of power might have left of the first one's; its counts, its orders and
-- what it tells of ranges are its own.
pub record IsLeftOf (old new : Device) : Type 0 where
  pub sizes : new.sizes ≡ old.sizes
  pub idle : new.flights ≡ []
  pub was : Media
  pub told_before : old.media ≡ Some was
  pub media : Media
  pub told : new.media ≡ Some media
  pub left : IsTorn was old.flights media

-- What may stand before a run on the one may stand before it on the other;
abbrev pub LeftIsEarlier : Type 0
LeftIsEarlier = (run : ℕ) (old new : Device) (past : List Fact) → IsEarlier run old past → IsLeftOf old new → IsEarlier run new past

-- so what a run has left, and a loss of power behind it, the next one may begin with.
abbrev pub NextAfterCut : Type 0
NextAfterCut = (run next : ℕ) (entry exit later : Device) (past facts : List Fact) → IsEarlier run entry past → IsUpheld run entry exit facts → IsLeftOf exit later
    → count_by (begins_in next) (joined past facts) ≡ 0 → IsLater (joined past facts) next → IsEarlier next later (joined past facts)

-- And where all that it may leave is from before a moment, so is what it has left.
abbrev pub LeftIsBehind : Type 0
LeftIsBehind = (moment : ℕ) (old new : Device) → LeavesBefore (beginning_at moment) old → IsLeftOf old new → StampsAreEarlier moment new
