-- Passed on from the crates below.
pub use Rattle.lvm_core.specs.declared.refused.Cause.TheVariants.{Ambiguous, ClockBack, Dark, DiskFailed, GroupExists, HistoryFull, Memory, NoDisk, NoQuorum, NoRecord, Stuck, TooMany, TooSmall}
