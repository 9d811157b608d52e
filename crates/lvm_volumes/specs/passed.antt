pub mod Core
pub mod Even
pub mod VolumePlan
pub mod VolumePlanFaultGroupFault
