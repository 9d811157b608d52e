-- Passed on from the crates below.
pub use Rattle.lvm_num.specs.declared.record.Kind.TheVariants.{Descriptor, Status}
