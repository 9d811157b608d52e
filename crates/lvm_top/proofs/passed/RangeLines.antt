-- Passed on from `lvm_range_lines`.
pub use Rattle.lvm_line.proofs.passed.RangeLines.{none_moves}
