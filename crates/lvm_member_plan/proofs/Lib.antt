pub mod ValidityLemmas
pub mod NeighbourLemmas
pub mod StepsLemmas
pub mod LastLemmas
pub mod NamedLemmas
pub mod VotesLemmas
