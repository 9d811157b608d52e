-- Passed on from `lvm_quiesce`: the variants of `Quiesced`.
pub use Rattle.lvm_volume_lines.specs.passed.QuiescedVariants.{Dark, Stuck}
