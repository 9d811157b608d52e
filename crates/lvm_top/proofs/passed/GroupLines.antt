-- Passed on from `lvm_group_lines`.
pub use Rattle.lvm_line.proofs.passed.GroupLines.{same_goes}
