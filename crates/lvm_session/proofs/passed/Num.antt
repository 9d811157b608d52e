-- Passed on from `lvm_num`.
pub use Rattle.lvm_num.proofs.Booleans.{and_true}
