-- Passed on from `lvm_vgda`.
pub use Rattle.lvm_write.proofs.passed.Vgda.{spelled_is_read}
