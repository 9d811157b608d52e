pub mod CopyPlanCopiesLemmasFewer
pub mod CopyPlanCopiesLemmasMore
pub mod Even
pub mod VolumePlan
