-- Passed on from `lvm_going`, `lvm_going_laws` and `lvm_tie`.
pub use Rattle.lvm_going_laws.specs.Laws.{StaysGood}
pub use Rattle.lvm_going_laws.specs.Moving.{LeavesMoving, MovesOn, IsCommittedOn, IsGoodSparing, IsLeftBefore, IsNextOf}
pub use Rattle.lvm_tie_commands.specs.passed.Tie.{IsBefore, LeavesSession, RunsOn, IsGood, IsStamped, IsTied, LeavesDescriptors, moment_of}
