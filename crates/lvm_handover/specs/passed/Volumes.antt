-- Passed on from `lvm_volumes`.
pub use Rattle.lvm_volumes.specs.Endings.{IfAlone, StillHeld}
pub use Rattle.lvm_volumes.specs.Volumes.{HasEntered, IsChosen, IsVolumeMade, IsWith, MklvGives, RmlvGives, making, removed, removing, to_make, to_remove}
