-- Passed on from `lvm_core`.
pub use Rattle.lvm_handover.specs.passed.Core.{AreUnused, IsNumberOf, IsSettled, Leaves, NoPartition, NoVolume, moment_of}
