-- Passed on from `lvm_vgsa`.
pub use Rattle.lvm_quorum.proofs.passed.Vgsa.{dirty_small, few_rows, is_read_again, length-status}
