-- Passed on from `lvm_volume_plan`.
pub use Rattle.lvm_volumes.specs.passed.VolumePlan.{GroupFault, IfOn, NewVolume, ends_session, fault_of, is_over, row_for, with_volume, without_volume}
