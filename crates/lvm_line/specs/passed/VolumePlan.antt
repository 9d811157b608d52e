-- Passed on from `lvm_volume_plan`.
pub use Rattle.lvm_volume_lines.specs.passed.VolumePlan.{first_copies, with_copies, with_map}
