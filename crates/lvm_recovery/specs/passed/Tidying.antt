-- Passed on from `lvm_tidying`.
pub use Rattle.lvm_tidying.specs.Cleaned.{IsCleaned, IsStillDirty}
pub use Rattle.lvm_tidying.specs.Quiet.{DirtyAreOne}
pub use Rattle.lvm_tidying.specs.Recovered.{IsWrittenTo, RecoversAll, WasCleaned}
