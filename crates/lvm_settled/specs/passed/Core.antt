-- Passed on from `lvm_core`.
pub use Rattle.lvm_core.specs.Coming.{BringsOn, IsStarted}
pub use Rattle.lvm_core.specs.Held.{IsHeld, NotesAreHome}
pub use Rattle.lvm_core.specs.Settled.{IsSettled}
pub use Rattle.lvm_core.specs.Sound.{HaveAllLanded, IsFittingAtRest, HasNothingUnderWay, IsSoundAtRest}
pub use Rattle.lvm_core.specs.Starting.{IsRoom, session_room_of}
pub use Rattle.lvm_core.specs.declared.parts.Room.{Room}
