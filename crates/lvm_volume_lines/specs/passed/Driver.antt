-- Passed on from `lvm_driver`.
pub use Rattle.lvm_range_lines.specs.passed.Driver.{FailsSo, IsAny, IsTurn}
