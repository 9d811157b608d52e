mod SoundLemmas
mod DeviceLemmas
mod DepartureLemmas
mod StepsLemmas
mod BenchLemmas
mod HeedsLemmas
mod GateLemmas
mod BufferLemmas
mod PiecesLemmas
pub mod MediaLemmas
mod GivenUpLemmas
pub mod TicketsLemmas
pub mod FlightsLemmas
pub mod InjectionLemmas
