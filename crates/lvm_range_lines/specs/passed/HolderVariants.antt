-- Passed on from `lvm_group_lines`: the variants of `Holder`.
pub use Rattle.lvm_group_lines.specs.declared.holder.Holder.TheVariants.{Empty, Off, Serving}
