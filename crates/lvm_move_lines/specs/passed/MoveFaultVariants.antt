-- Passed on from `lvm_migrate`: the variants of `MoveFault`.
pub use Rattle.lvm_migrate.specs.declared.fault.MoveFault.TheVariants.{Busy, Dark, HistoryFull, Memory, Missing, NoFresh, NoRoom, Strict, Stuck, SyncFailed, WentOff}
