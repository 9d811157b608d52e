-- Passed on from the crates below.
pub use Rattle.lvm_fields.specs.declared.fault.Fault.TheVariants.{At, Memory}
