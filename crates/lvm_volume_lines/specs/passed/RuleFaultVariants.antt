-- Passed on from `lvm_members`: the variants of `RuleFault`.
pub use Rattle.lvm_range_lines.specs.passed.RuleFaultVariants.{Busy, Dark, HistoryFull, Memory, NoQuorum, Stuck, WentOff}
