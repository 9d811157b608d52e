-- Passed on from `lvm_volume_plan`.
pub use Rattle.lvm_tie_commands.specs.passed.VolumePlan.{GroupFault, IfOn, NewVolume, ends_session, fault_of, first_copies, is_over, with_copies, with_map}
