-- Passed on from `lvm_rec`.
pub use Rattle.lvm_session.specs.passed.Rec.{Homes}
