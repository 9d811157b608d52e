-- Passed on from `lvm_session`.
pub use Rattle.lvm_session.specs.Hands.{AreInHand, IsOutIf, MayEnd}
