-- Passed on from `lvm_group_lines`: the variants of `Holder`.
pub use Rattle.lvm_range_lines.specs.passed.HolderVariants.{Empty, Off, Serving}
