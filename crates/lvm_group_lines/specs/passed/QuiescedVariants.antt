-- Passed on from `lvm_quiesce`: the variants of `Quiesced`.
pub use Rattle.lvm_quiesce.specs.declared.ends.Quiesced.TheVariants.{Dark, Stuck}
