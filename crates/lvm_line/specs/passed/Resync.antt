-- Passed on from `lvm_ranges`.
pub use Rattle.lvm_volume_lines.specs.passed.Resync.{Copy, SyncFault, group_copies, group_fault, volume_copies, volume_fault}
