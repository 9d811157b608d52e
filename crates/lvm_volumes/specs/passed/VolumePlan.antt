-- Passed on from `lvm_volume_plan`.
pub use Rattle.lvm_volume_plan.specs.Copies.{first_copies, further_copies, with_copies, with_map}
pub use Rattle.lvm_volume_plan.specs.CopiesFaults.{HasFurtherPlaces, MayBeTaken}
pub use Rattle.lvm_volume_plan.specs.Faults.{HasSpareRoom, IfOn, ends_session, fault_of, is_over}
pub use Rattle.lvm_volume_plan.specs.NewVolume.{row_for, with_volume, without_volume}
pub use Rattle.lvm_volume_plan.specs.declared.fault.GroupFault.{GroupFault}
pub use Rattle.lvm_volume_plan.specs.declared.new_volume.NewVolume.{NewVolume}
