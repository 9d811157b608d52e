-- Passed on from `lvm_recover`.
pub use Rattle.lvm_recover.specs.Recopied.{AreEqualled, IsRecopied, OnlyNotesOf}
