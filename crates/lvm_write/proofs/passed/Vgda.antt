-- Passed on from `lvm_vgda`.
pub use Rattle.lvm_quorum.proofs.passed.Vgda.{spelled_is_read}
