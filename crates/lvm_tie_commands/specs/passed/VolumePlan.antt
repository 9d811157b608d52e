-- Passed on from `lvm_volume_plan`.
pub use Rattle.lvm_handover.specs.passed.VolumePlan.{GroupFault, IfOn, NewVolume, ends_session, fault_of, is_over}
pub use Rattle.lvm_volumes.specs.passed.VolumePlan.{first_copies, with_copies, with_map}
