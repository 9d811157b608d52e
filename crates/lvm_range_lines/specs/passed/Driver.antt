-- Passed on from `lvm_driver`.
pub use Rattle.lvm_group_lines.specs.passed.Driver.{FailsSo, IsAny, IsDrained, IsTurn}
