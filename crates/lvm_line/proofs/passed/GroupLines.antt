-- Passed on from `lvm_group_lines`.
pub use Rattle.lvm_volume_lines.proofs.passed.GroupLines.{closed_ahead, over_goes, same_goes}
