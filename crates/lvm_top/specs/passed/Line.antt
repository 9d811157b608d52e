-- Passed on from `lvm_line`.
pub use Rattle.lvm_line.specs.Lines.{IsLine, LineDoes, role_of, IsOrder, asked_after}
pub use Rattle.lvm_line.specs.Causes.{HasCause, HasFailedInSession, LacksOnTheWay, WereLost}
pub use Rattle.lvm_line.specs.Complete.{NothingFailed}
pub use Rattle.lvm_line.specs.Told.{NothingSince, IsWellTold}
