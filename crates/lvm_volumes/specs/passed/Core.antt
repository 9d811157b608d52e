-- Passed on from `lvm_core`.
pub use Rattle.lvm_volume_plan.specs.passed.Core.{IsOfCommand, KeepsStatus, NoPartition}
