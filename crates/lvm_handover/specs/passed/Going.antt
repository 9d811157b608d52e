-- Passed on from `lvm_going`.
pub use Rattle.lvm_going.specs.Descriptors.{LeavesDescriptors}
pub use Rattle.lvm_going.specs.Statuses.{IsStamped}
pub use Rattle.lvm_ranges.specs.passed.Tie.{LeavesSession, RunsOn}
