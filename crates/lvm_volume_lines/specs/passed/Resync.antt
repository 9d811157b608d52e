-- Passed on from `lvm_ranges`.
pub use Rattle.lvm_ranges.specs.Causes.{AnyFails, SyncCause}
pub use Rattle.lvm_ranges.specs.Passing.{Copy}
pub use Rattle.lvm_ranges.specs.Syncing.{group_copies, group_fault, volume_copies, volume_fault}
pub use Rattle.lvm_ranges.specs.declared.fault.SyncFault.{SyncFault}
