-- Passed on from `lvm_core`.
pub use Rattle.lvm_handover.proofs.passed.Core.{unused_markable}
