pub mod MovingLemmas
pub mod ServingLemmas
pub mod CommittingLemmas
pub mod StandingLemmas
