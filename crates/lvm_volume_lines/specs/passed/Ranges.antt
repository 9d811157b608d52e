-- Passed on from `lvm_ranges`.
pub use Rattle.lvm_range_lines.specs.passed.Ranges.{AnyFailed, AskRangeFault, MovesTurns, NoMove, OneMove, RangeCause}
