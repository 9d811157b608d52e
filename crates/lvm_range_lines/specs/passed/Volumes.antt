-- Passed on from `lvm_volumes`.
pub use Rattle.lvm_group_lines.specs.passed.Volumes.{AreAdded, AreTaken, HasEntered, IsWith, IsWithFirst, IsWithMore, MklvGives, MklvcopyGives, RmlvGives, RmlvcopyGives, StillHeld, making, removed, removing, to_add, to_make, to_remove, to_take}
