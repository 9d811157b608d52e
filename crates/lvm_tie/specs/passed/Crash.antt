-- Passed on from `lvm_crash`.
pub use Rattle.lvm_crash.specs.Owned.{OnlyUpdateSince}
