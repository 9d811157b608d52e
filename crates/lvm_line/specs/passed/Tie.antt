-- Passed on from `lvm_going`, `lvm_going_laws` and `lvm_tie`.
pub use Rattle.lvm_volume_lines.specs.passed.Tie.{LeavesMoving, LeavesSession, RunsOn, IsGood, IsGoodSparing, IsTied, LeavesDescriptors, MovesOn, StaysGood, IsCommittedOn}
