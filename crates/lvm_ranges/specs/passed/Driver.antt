-- Passed on from `lvm_driver`.
pub use Rattle.lvm_driver.specs.Answers.{IsCausedFor, IsCopyCaused}
pub use Rattle.lvm_driver.specs.Drains.{FailsSo, IsAny, IsDrained, IsTurn, LastTurn, NoTurn, ThenMoves, ThenWaits, TurnsWhile}
pub use Rattle.lvm_driver.specs.Beginnings.{IsClosedLog, IsShelfOf, IsWholeGroup}
