pub mod passed
pub mod LawsLemmas
pub mod GroupsLemmas
pub mod RangesLemmas
