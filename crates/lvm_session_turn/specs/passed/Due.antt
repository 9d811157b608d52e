-- Passed on from `lvm_due`.
pub use Rattle.lvm_moves.specs.passed.Due.{IsDue}
