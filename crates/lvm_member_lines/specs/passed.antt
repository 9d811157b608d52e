pub mod MemberPlan
pub mod MemberSteps
pub mod Reduce
pub mod ReduceFaultVariants
