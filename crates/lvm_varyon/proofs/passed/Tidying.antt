-- Passed on from `lvm_tidying`.
pub use Rattle.lvm_recovery.proofs.passed.Tidying.{copied_are_one, quiet_dirty_is_even, recovered_by_cleaning}
