-- Passed on from `lvm_commit`.
pub use Rattle.lvm_commit.specs.Committed.{HoldsCommitted, ShowsCommitted}
pub use Rattle.lvm_commit.specs.LawsOfFinding.{FindsNothingNew}
pub use Rattle.lvm_commit.specs.LawsOfVolumes.{IsOneFoundOn}
pub use Rattle.lvm_commit.specs.Settling.{NoneIsLeft, there}
