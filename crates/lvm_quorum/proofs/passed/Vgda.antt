-- Passed on from `lvm_vgda`.
pub use Rattle.lvm_vgda.proofs.DescriptorBytesLemmas.Whole.{read_is_spelled, spelled_is_read}
