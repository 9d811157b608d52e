-- Passed on from `lvm_member_plan`: the variants of `ReduceFault`.
pub use Rattle.lvm_member_lines.specs.passed.ReduceFaultVariants.{Busy, Dark, DiskInUse, HistoryFull, LastDisk, Memory, NoDisk, NoQuorum, Stuck, WentOff}
