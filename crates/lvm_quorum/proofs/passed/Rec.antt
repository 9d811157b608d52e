-- Passed on from `lvm_rec`.
pub use Rattle.lvm_transfer.proofs.passed.Rec.{may_write}
