-- Passed on from `lvm_ranges`: the variants of `AskRangeFault`.
pub use Rattle.lvm_tie_commands.specs.passed.AskRangeFaultVariants.{HistoryFull, NoVolume, OutOfRange, TableFull}
