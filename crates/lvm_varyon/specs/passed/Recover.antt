-- Passed on from `lvm_recover`.
pub use Rattle.lvm_recovery.specs.passed.Recover.{AreEqualled, IsRecopied, OnlyNotesOf}
