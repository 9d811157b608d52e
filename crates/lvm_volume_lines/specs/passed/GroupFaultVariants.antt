-- Passed on from `lvm_volume_plan`.
pub use Rattle.lvm_range_lines.specs.passed.VolumePlanFaultGroupFault.{Busy, CopyLimit, Dark, DiskFailed, HistoryFull, LastFresh, Memory, NoRoom, NoVolume, StaleCopy, Stuck, TooMany, VolumeExists, WentOff}
