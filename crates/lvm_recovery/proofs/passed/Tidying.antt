-- Passed on from `lvm_tidying`.
pub use Rattle.lvm_tidying.proofs.QuietLemmas.{copied_are_one, quiet_dirty_is_even}
pub use Rattle.lvm_tidying.proofs.RecoveredLemmas.{recovered_by_cleaning}
