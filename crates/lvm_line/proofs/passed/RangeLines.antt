-- Passed on from `lvm_range_lines`.
pub use Rattle.lvm_volume_lines.proofs.passed.RangeLines.{none_moves}
