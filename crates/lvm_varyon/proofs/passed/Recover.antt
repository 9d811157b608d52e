-- Passed on from `lvm_recover`.
pub use Rattle.lvm_recovery.proofs.passed.Recover.{next_leaves_none, shows_other}
