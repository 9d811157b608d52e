-- Passed on from `lvm_rec`.
pub use Rattle.lvm_kept.proofs.passed.Rec.{may_write}
