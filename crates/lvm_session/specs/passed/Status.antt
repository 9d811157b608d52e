-- Passed on from `lvm_status`.
pub use Rattle.lvm_status.specs.Members.{HasItsRows}
pub use Rattle.lvm_status.specs.Runs.{IsSoundStatus}
pub use Rattle.lvm_status.specs.Update.{Stored, members_there, seen}
