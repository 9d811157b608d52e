-- Passed on from `lvm_volumes`.
pub use Rattle.lvm_tie_commands.specs.passed.Volumes.{AreAdded, AreTaken, IsWithFirst, IsWithMore, MklvcopyGives, RmlvcopyGives, to_add, to_take, HasEntered, IsWith, MklvGives, RmlvGives, StillHeld, making, removed, removing, to_make, to_remove}
