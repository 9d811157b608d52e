-- Passed on from the crates below.
pub use Rattle.lvm_volume_plan.specs.declared.fault.GroupFault.TheVariants.{Busy, CopyLimit, Dark, DiskFailed, HistoryFull, LastFresh, Memory, NoRoom, NoVolume, StaleCopy, Stuck, TooMany, VolumeExists, WentOff}
