-- Passed on from `lvm_going`, `lvm_going_laws` and `lvm_tie`.
pub use Rattle.lvm_group_lines.specs.passed.Tie.{IsBefore, IsGood, IsGoodSparing, IsStamped, IsTied, LeavesDescriptors, LeavesMoving, LeavesSession, MovesOn, RunsOn, StaysGood, IsCommittedOn, IsNextOf}
