-- Passed on from `lvm_commit`.
pub use Rattle.lvm_core.specs.passed.Commit.{HasFreshCopies, HasLostQuorum, HoldsCommitted, IsAlike, IsFree, IsOfCommit, IsOfSession, IsOfStatus, IsOnlyGroupOn, IsOnlyGroupSince, IsPassedOver, IsSectorOf, LeavesCommitted, MarksLeft, NoneIsLeft, ShowsCommitted, StatesGroup, VolumeServes, many_there, there}
