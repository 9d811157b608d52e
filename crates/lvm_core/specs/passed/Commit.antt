-- Passed on from `lvm_commit`.
pub use Rattle.lvm_commit.specs.Committed.{HoldsCommitted, IsAlike, ShowsCommitted, next_stamp}
pub use Rattle.lvm_commit.specs.LawsOfData.{IsFree, IsSectorOf}
pub use Rattle.lvm_commit.specs.LawsOfVolumes.{HasFreshCopies, IsOneFoundOn, IsOnlyGroupOn, IsOnlyGroupSince, LeavesCommitted, VolumeServes, VolumesServe}
pub use Rattle.lvm_commit.specs.Settling.{HasLostQuorum, IsOfCommit, IsOfSession, IsOfStatus, IsPassedOver, MarksLeft, NoneIsLeft, StatesGroup, many_there, there}
