-- Passed on from the crates below.
pub use Rattle.lvm_vol.specs.declared.entry.Vol.TheVariants.{Disk}
