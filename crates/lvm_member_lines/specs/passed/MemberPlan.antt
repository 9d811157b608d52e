-- Passed on from `lvm_member_plan`.
pub use Rattle.lvm_member_plan.specs.Descriptors.{IsReducedBy}
pub use Rattle.lvm_member_plan.specs.declared.fault.ReduceFault.{ReduceFault}
