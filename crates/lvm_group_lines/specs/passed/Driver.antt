-- Passed on from `lvm_driver`.
pub use Rattle.lvm_tie_commands.specs.passed.Driver.{FailsSo, IsAny, IsCausedFor, IsDrained, IsTurn}
