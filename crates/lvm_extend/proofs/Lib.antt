pub mod AdmissionLemmas
pub mod JoiningLemmas
pub mod SpreadingLemmas
