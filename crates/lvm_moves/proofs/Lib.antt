mod MovingLemmas
mod PinningLemmas
pub mod passed
mod ChoosingLemmas
mod EventsLemmas
mod Fronts
mod LogLemmas
mod EnteredLemmas
pub mod StartsLemmas
mod Writes
pub mod ReadyLemmas
mod SoundLemmas
pub mod OutLemmas
mod Starting
