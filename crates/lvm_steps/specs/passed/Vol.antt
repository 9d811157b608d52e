-- Passed on from `lvm_vol`.
pub use Rattle.lvm_vol.specs.Facts.{Fact}
