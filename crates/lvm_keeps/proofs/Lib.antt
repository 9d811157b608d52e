pub mod Lists
pub mod Small
pub mod VotesLemmas
pub mod LeftLemmas
pub mod RequestsLemmas
pub mod SoundLemmas
pub mod CausesLemmas
pub mod EnabledLemmas
pub mod KeepsLemmas
pub mod DarkLemmas
pub mod OwnersLemmas
pub mod CacheLemmas
pub mod StateLemmas
pub mod FallsLemmas
pub mod BeginsLemmas
mod FaultedLemmas
mod FailingLemmas
mod CopiesLemmas
mod UnreadLemmas
