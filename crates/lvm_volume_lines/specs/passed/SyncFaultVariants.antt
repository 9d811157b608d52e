-- Passed on from `lvm_ranges`: the variants of `SyncFault`.
pub use Rattle.lvm_ranges.specs.declared.fault.SyncFault.TheVariants.{Busy, Dark, HistoryFull, Missing, NoFresh, NoVolume, Off, OutOfRange, Stuck, SyncFailed}
