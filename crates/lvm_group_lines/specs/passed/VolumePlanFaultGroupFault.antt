-- Passed on from the crates below.
pub use Rattle.lvm_tie_commands.specs.passed.VolumePlanFaultGroupFault.{Busy, CopyLimit, Dark, DiskFailed, HistoryFull, LastFresh, Memory, NoRoom, NoVolume, StaleCopy, Stuck, TooMany, VolumeExists, WentOff}
