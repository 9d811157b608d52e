-- Passed on from the crates below.
pub use Rattle.lvm_vol.specs.declared.entry.Outcome.TheVariants.{Done, Got, Lost, NoFresh, ReadFailed}
