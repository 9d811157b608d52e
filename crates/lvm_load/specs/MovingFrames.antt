-- What stays of a session over a way on which copies move.
use Rattle.std.specs.Prelude.{◌≡◌, ◌⊎◌, []}
use Rattle.lvm_disk.specs.Counts.{NoneFalls}
use Rattle.lvm_session.specs.declared.open.Power.TheVariants as power
use Rattle.lvm_session.specs.State.{State}
use Rattle.lvm_going.specs.Frames.{GoesOffByCut, GoesOnOrEnds}
use Rattle.lvm_going.specs.Going.{LeavesMoving}

-- It is of the run that it was given, on disks as large, whose counts never fall and whose power goes off by a cut alone; faults count from where they did; and it goes on,
-- is over, or isn't heard of.
pub record KeepsMovingFrame (old new : State) : Type 0 where
  pub sizes : new.device.sizes ≡ old.device.sizes
  pub counts : NoneFalls old.device.counts new.device.counts
  pub cut : GoesOffByCut old.device new.device
  pub log : record new.core.history { facts = [] } ≡ record old.core.history { facts = [] }
  pub faults : new.core.origin.faults ≡ old.core.origin.faults
  pub power : GoesOnOrEnds old.core new.core ⊎ ((old.core.power ≡ power.On) × (new.core.power ≡ power.Stuck))

-- It stays so, however often copies move.
abbrev pub MovesFrame : Type 0
MovesFrame = (first last : State) → LeavesMoving first last → KeepsMovingFrame first last
