pub mod passed
mod EnabledLemmas
mod DueLemmas
mod WorkedLemmas
mod Queues
mod WritesLemmas
mod JudgingLemmas
mod DifferingLemmas
mod Steps
pub mod Nexts
pub mod AtPlaces
pub mod OrderLemmas
mod VotesLemmas
pub mod NotNextLemmas
pub mod SpansLemmas
mod UsableLemmas
mod Parting
mod NextLemmas
mod FactsJudgingLemmas
pub mod DescriptorLemmas
mod Sums
