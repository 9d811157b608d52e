-- Passed on from `lvm_members`: the variants of `RuleFault`.
pub use Rattle.lvm_members.specs.declared.fault.RuleFault.TheVariants.{Busy, Dark, HistoryFull, Memory, NoQuorum, Stuck, WentOff}
