-- Passed on from the crates below.
pub use Rattle.lvm_volumes.specs.passed.VolumePlanFaultGroupFault.{Busy, CopyLimit, Dark, DiskFailed, HistoryFull, LastFresh, Memory, NoRoom, NoVolume, StaleCopy, Stuck, TooMany, VolumeExists, WentOff}
