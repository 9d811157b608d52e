-- Passed on from `lvm_disk`.
pub use Rattle.lvm_disk.proofs.PathsLemmas.{append-path, last-path, lift-path, map-path}
