-- Passed on from `lvm_session`.
pub use Rattle.lvm_core.specs.passed.Session.{ArePlaced, Core, is_there}
