-- Passed on from `lvm_member_plan`: the variants of `ReduceFault`.
pub use Rattle.lvm_member_plan.specs.declared.fault.ReduceFault.TheVariants.{Busy, Dark, DiskInUse, HistoryFull, LastDisk, Memory, NoDisk, NoQuorum, Stuck, WentOff}
