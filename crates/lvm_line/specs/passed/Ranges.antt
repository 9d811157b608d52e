-- Passed on from `lvm_ranges`.
pub use Rattle.lvm_volume_lines.specs.passed.Ranges.{MovesTurns, NoMove, OneMove}
