-- Passed on from the crates below.
pub use Rattle.lvm_vol.specs.declared.entry.Entry.TheVariants.{Begun, Cut, Landed, Made, Making, On, Removed, Removing, Split, Taken}
