-- Passed on from `lvm_ranges`: the variants of `AskRangeFault`.
pub use Rattle.lvm_ranges.specs.declared.refusal.AskRangeFault.TheVariants.{HistoryFull, NoVolume, OutOfRange, TableFull}
