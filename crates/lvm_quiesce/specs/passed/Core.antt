-- Passed on from `lvm_core`.
pub use Rattle.lvm_core.specs.Held.{IsHeld}
pub use Rattle.lvm_core.specs.Leaves.{EntersVolumes}
pub use Rattle.lvm_core.specs.Settled.{IsSettled}
pub use Rattle.lvm_core.specs.Sound.{HaveAllLanded}
pub use Rattle.lvm_core.specs.declared.refused.Cause.{Cause}
