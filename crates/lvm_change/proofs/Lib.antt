pub mod MarkingLemmas
pub mod DescribeLemmas
pub mod PartingLemmas
pub mod RefusingLemmas
pub mod SievingLemmas
pub mod TransitionLemmas
