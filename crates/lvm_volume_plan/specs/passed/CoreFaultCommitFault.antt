-- Passed on from the crates below.
pub use Rattle.lvm_core.specs.declared.fault.CommitFault.TheVariants.{Dark, DiskFailed, Stuck, WentOff}
