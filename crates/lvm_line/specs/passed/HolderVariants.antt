-- Passed on from `lvm_group_lines`: the variants of `Holder`.
pub use Rattle.lvm_volume_lines.specs.passed.HolderVariants.{Empty, Off, Serving}
