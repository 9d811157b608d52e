mod TakingLemmas
mod TurnsLemmas
pub mod HandsLemmas
mod EndsLemmas
mod WaitingLemmas
pub mod passed
mod EndedLemmas
pub mod Ended
mod Owning
pub mod Listing
