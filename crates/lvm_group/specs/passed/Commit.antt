-- Passed on from `lvm_commit`.
pub use Rattle.lvm_core.specs.passed.Commit.{HoldsCommitted, NoneIsLeft, ShowsCommitted}
