-- Passed on from `lvm_group_lines`: the variants of `Refusal`.
pub use Rattle.lvm_range_lines.specs.passed.RefusalVariants.{BadLine, Busy, ClockBack, Dark, DiskFailed, DiskInUse, GroupOn, HistoryFull, InGroup, LastDisk, Lost, Memory, Missing, NoDisk, NoFresh, NoGroup, NoPlan, NoQuorum, NoRoom, NoVolume, OutOfRange, ReadFailed, Strict, Stuck, SyncFailed, WentOff}
