-- Passed on from `lvm_core`.
pub use Rattle.lvm_core.specs.Committing.{AreUnused, moment_of}
pub use Rattle.lvm_core.specs.Held.{AreNotesHome, IsHeld, NotesAreHome, StartsHeld}
pub use Rattle.lvm_core.specs.Leaves.{EntersVolumes, IsOfCommand, KeepsStatus, Leaves, NoPartition, NoVolume, Scope, WasLeftBehind}
pub use Rattle.lvm_core.specs.Looking.{IsNumberOf}
pub use Rattle.lvm_core.specs.Settled.{IsSettled}
pub use Rattle.lvm_core.specs.Sound.{HasNoneOpen, HaveAllLanded, IsFittingAtRest, HasNothingUnderWay, IsSoundAtRest}
pub use Rattle.lvm_core.specs.Starting.{session_room_of}
pub use Rattle.lvm_core.specs.declared.parts.Room.{Room}
