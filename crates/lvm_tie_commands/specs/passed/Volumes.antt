-- Passed on from `lvm_volumes`.
pub use Rattle.lvm_handover.specs.passed.Volumes.{HasEntered, IsWith, MklvGives, RmlvGives, StillHeld, making, removed, removing, to_make, to_remove}
pub use Rattle.lvm_volumes.specs.Mirrors.{AreAdded, AreTaken, IsWithFirst, IsWithMore, MklvcopyGives, RmlvcopyGives, to_add, to_take}
