-- Passed on from `lvm_disk`.
pub use Rattle.lvm_transfer.proofs.passed.Disk.{append-path, map-path}
