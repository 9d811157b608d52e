-- Passed on from `lvm_commit`.
pub use Rattle.lvm_even.specs.passed.Commit.{ShowsCommitted}
