-- Passed on from `lvm_due`.
pub use Rattle.lvm_due.specs.Due.{IsDue}
