-- Passed on from `lvm_session`.
pub use Rattle.lvm_core.specs.passed.Session.{ArePlaced, Core, IsPlaced, is_there}
