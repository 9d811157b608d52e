-- Passed on from `lvm_vgsa`.
pub use Rattle.lvm_vgsa.proofs.StatusBytesLemmas.RoundTrip.{is_read, is_read_again}
pub use Rattle.lvm_vgsa.proofs.StatusBytesLemmas.Sizes.{dirty_small, few_rows, length-status}
