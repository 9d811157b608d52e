-- Passed on from `lvm_driver`.
pub use Rattle.lvm_ranges.specs.passed.Driver.{FailsSo, IsAny, IsCausedFor, IsDrained, IsTurn}
