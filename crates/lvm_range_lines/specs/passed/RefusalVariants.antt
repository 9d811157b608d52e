-- Passed on from `lvm_group_lines`: the variants of `Refusal`.
pub use Rattle.lvm_group_lines.specs.declared.reply.Refusal.TheVariants.{BadLine, Busy, ClockBack, CopyLimit, Dark, DiskFailed, DiskInUse, GroupOn, HistoryFull, InGroup, LastDisk, LastFresh, Lost, Memory, Missing, NoDisk, NoFresh, NoGroup, NoPlan, NoQuorum, NoRoom, NoVolume, OutOfRange, ReadFailed, StaleCopy, Strict, Stuck, SyncFailed, TooMany, VolumeExists, WentOff}
