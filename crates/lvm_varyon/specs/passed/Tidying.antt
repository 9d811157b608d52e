-- Passed on from `lvm_tidying`.
pub use Rattle.lvm_recovery.specs.passed.Tidying.{DirtyAreOne, IsCleaned, IsStillDirty, IsWrittenTo, RecoversAll, WasCleaned}
