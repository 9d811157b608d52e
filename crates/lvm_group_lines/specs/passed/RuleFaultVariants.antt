-- Passed on from `lvm_members`: the variants of `RuleFault`.
pub use Rattle.lvm_tie_commands.specs.passed.RuleFaultVariants.{Busy, Dark, HistoryFull, Memory, NoQuorum, Stuck, WentOff}
