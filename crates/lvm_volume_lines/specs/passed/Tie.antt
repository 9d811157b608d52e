-- Passed on from `lvm_going`, `lvm_going_laws` and `lvm_tie`.
pub use Rattle.lvm_range_lines.specs.passed.Tie.{IsGood, IsGoodSparing, IsTied, LeavesDescriptors, LeavesMoving, LeavesSession, MovesOn, RunsOn, StaysGood, IsCommittedOn}
