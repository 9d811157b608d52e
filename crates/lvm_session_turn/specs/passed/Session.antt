-- Passed on from `lvm_session`.
pub use Rattle.lvm_moves.specs.passed.Session.{IsOutIf}
