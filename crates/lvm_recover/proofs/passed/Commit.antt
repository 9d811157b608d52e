-- Passed on from `lvm_commit`.
pub use Rattle.lvm_even.proofs.passed.Commit.{contains, of_map, of_rows}
