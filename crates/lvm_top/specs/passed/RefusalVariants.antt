-- Passed on from `lvm_group_lines`: the variants of `Refusal`.
pub use Rattle.lvm_line.specs.passed.RefusalVariants.{Memory, NoQuorum, Stuck, Busy, Dark, DiskFailed, HistoryFull, Lost, Missing, NoFresh, NoGroup, NoVolume, ReadFailed, SyncFailed, WentOff}
