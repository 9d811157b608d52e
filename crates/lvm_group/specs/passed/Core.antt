-- Passed on from `lvm_core`.
pub use Rattle.lvm_core.specs.Coming.{BringsOn, IsStarted, history_left, shelf_left}
pub use Rattle.lvm_core.specs.Held.{NotesAreHome, StartsHeld}
pub use Rattle.lvm_core.specs.Settled.{HasSpareNumbers, IsSettled}
pub use Rattle.lvm_core.specs.Sound.{HaveAllLanded}
pub use Rattle.lvm_core.specs.Starting.{IsReservedFor, IsRoom}
pub use Rattle.lvm_core.specs.State.{state_of}
pub use Rattle.lvm_core.specs.declared.parts.Room.{Room}
pub use Rattle.lvm_core.specs.declared.refused.Cause.{Cause}
pub use Rattle.lvm_core.specs.declared.refused.Refused.{Refused}
