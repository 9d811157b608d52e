-- Passed on from `lvm_volume_plan`.
pub use Rattle.lvm_range_lines.specs.passed.VolumePlan.{GroupFault, ends_session, fault_of, is_over, first_copies, with_copies, with_map}
