pub mod passed
mod Places
pub mod LogLemmas
pub mod WaitingLemmas
pub mod CallsLemmas
mod NumbersLemmas
mod Groups
pub mod OpeningLemmas
pub mod MovingLemmas
pub mod Tables
mod LeavingLemmas
pub mod EndingLemmas
mod LosingLemmas
pub mod LeftLemmas
pub mod BringingLemmas
pub mod MarksLemmas
mod StillPlaces
mod DueLemmas
mod AimedLemmas
