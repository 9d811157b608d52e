-- Writes that are under way, as the values that they may bring to each sector.
use Rattle.std.specs.Prelude.{◌≡◌, ◌⊎◌, ℕ, Some}
use Rattle.lvm_disk.specs.passed.Num.{Sector}
use Rattle.lvm_disk.specs.Device.{Image, Flight, Device, SameDisks, written, IsInFlight, MayLeave}
use Rattle.lvm_disk.specs.Paths.{DeviceStep, Started}

-- which values may be brought to a sector of a disk
abbrev pub Plan : Type 1
Plan = ℕ → ℕ → Sector → Type 0

-- Each sector is the old one, or has a value that the plan brings there: so it is however many transfers there were, and whatever became of each.
pub record ChangesBy (P : Plan) (old new : Image) : Type 0 where
  pub same : SameDisks old new
  pub each : (d s : ℕ) → (new.sector d s ≡ old.sector d s) ⊎ P d s (new.sector d s)

-- From the old image on, only transfers of the plan have started; any of them have ended or failed.
pub record IsUnderWay (P : Plan) (old : Image) (device : Device) : Type 0 where
  pub images : (image : Image) → MayLeave device image → ChangesBy P old image
  pub flights : (d s : ℕ) (value : Sector) → IsInFlight device.flights d s value → P d s value

-- the flight brings nothing but what the plan brings; a read brings nothing
abbrev pub IsPlanned : Plan → Flight → Type 0
IsPlanned P f = (d s : ℕ) (value : Sector) → written f d s ≡ Some value → P d s value

-- the step starts no flight but one of the plan
abbrev pub StepIsPlanned : Plan → {old new : Device} → DeviceStep old new → Type 0
StepIsPlanned P (Started f starts) = IsPlanned P f
StepIsPlanned P _ = Unit {0}
