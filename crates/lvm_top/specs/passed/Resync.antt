-- Passed on from `lvm_ranges`.
pub use Rattle.lvm_line.specs.passed.Resync.{Copy, SyncFault}
