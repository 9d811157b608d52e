-- Passed on from `lvm_volume_plan`.
pub use Rattle.lvm_group_lines.specs.passed.VolumePlan.{first_copies, with_copies, with_map, IfOn, ends_session, fault_of, is_over, GroupFault, NewVolume}
