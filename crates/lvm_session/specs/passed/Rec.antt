-- Passed on from `lvm_rec`.
pub use Rattle.lvm_kept.specs.passed.Rec.{Homes}
