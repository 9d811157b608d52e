-- Passed on from `lvm_group_lines`: the variants of `Holder`.
pub use Rattle.lvm_line.specs.passed.HolderVariants.{Empty, Off, Serving}
