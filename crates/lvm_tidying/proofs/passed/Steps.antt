-- Passed on from `lvm_steps`.
pub use Rattle.lvm_steps.proofs.RecordLemmas.{join, split}
