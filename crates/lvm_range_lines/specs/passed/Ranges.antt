-- Passed on from `lvm_ranges`.
pub use Rattle.lvm_group_lines.specs.passed.Ranges.{AnyFailed, AskRangeFault, KeepsTable, MovesTurns, NoMove, OneMove, RangeCause}
