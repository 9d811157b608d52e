-- Passed on from `lvm_keeps`.
pub use Rattle.lvm_range_lines.proofs.passed.Keeps.{loss_is_caused}
