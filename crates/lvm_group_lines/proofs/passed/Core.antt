-- Passed on from `lvm_core`.
pub use Rattle.lvm_quiesce.proofs.passed.Core.{cut_landed}
