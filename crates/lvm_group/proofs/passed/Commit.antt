-- Passed on from `lvm_commit`.
pub use Rattle.lvm_core.proofs.passed.Commit.{shown_is_only}
