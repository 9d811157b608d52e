-- Passed on from `lvm_tidying`.
pub use Rattle.lvm_varyon.proofs.passed.Tidying.{quiet_dirty_is_even}
