pub mod KnowingLemmas
pub mod MakingLemmas
pub mod WorkingLemmas
pub mod ServingLemmas
pub mod CrewsLemmas
pub mod CountingLemmas
pub mod BringingLemmas
