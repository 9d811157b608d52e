-- Passed on from the crates below.
pub use Rattle.lvm_range_lines.specs.passed.VolumePlanFaultGroupFault.{Dark, DiskFailed, Stuck, WentOff}
