-- How requests land where nothing fails while copies move.
use Rattle.std.specs.Prelude.{◌≡◌, ◌++◌, List}
use Rattle.std.specs.List.{AllByRecursion}
use Rattle.lvm_vol.specs.Facts.{Fact}
use Rattle.lvm_session.specs.declared.open.Power.TheVariants as power
use Rattle.lvm_session.specs.Causes.{AnyFailedSince}
use Rattle.lvm_session.specs.Sound.{IsSound}
use Rattle.lvm_session.specs.State.{State}
pub use Rattle.lvm_going.specs.Going.{LeavesMoving}
pub use Rattle.lvm_load.specs.MovingFrames.{KeepsMovingFrame, MovesFrame}
use Rattle.lvm_load.specs.Landing.{IsEnteredWell}

-- it has been entered well by the session as it was at some moment of its way, when some copies had moved
pub record IsEnteredOnWay (first : State) (f : Fact) : Type 0 where
  pub at : State
  pub way : LeavesMoving first at
  pub well : IsEnteredWell at.core f

-- The history goes on to this, and so has each entry since.
pub record EntersOnWay (first : State) (facts : List Fact) : Type 0 where
  pub since : List Fact
  pub is : facts ≡ first.core.history.facts ++ since
  pub well : AllByRecursion (IsEnteredOnWay first) since

-- While no transfer has failed since a session began, nor the power was cut, each request of it lands so while copies move.
abbrev pub RequestsLandOnWay : Type 0
RequestsLandOnWay = (first last : State) → IsSound first → LeavesMoving first last → (AnyFailedSince last → ⊥) → (last.core.power ≡ power.Dark → ⊥) → EntersOnWay first last.core.history.facts
