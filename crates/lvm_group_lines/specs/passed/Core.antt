-- Passed on from `lvm_core`.
pub use Rattle.lvm_core.specs.Leaves.{is_of_volume}
pub use Rattle.lvm_core.specs.Looking.{HasNoVolumeNamed, IsNumberOf}
pub use Rattle.lvm_core.specs.Settled.{IsSettled}
pub use Rattle.lvm_core.specs.Sound.{HaveAllLanded, IsSoundAtRest}
