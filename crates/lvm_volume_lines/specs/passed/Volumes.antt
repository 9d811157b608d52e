-- Passed on from `lvm_volumes`.
pub use Rattle.lvm_range_lines.specs.passed.Volumes.{AreAdded, AreTaken, IsWith, IsWithFirst, IsWithMore, MklvcopyGives, RmlvcopyGives, StillHeld, to_add, to_take}
