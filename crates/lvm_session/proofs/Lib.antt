pub mod passed
pub mod RoomsLemmas
pub mod Small
pub mod EnabledLemmas
pub mod WorkedLemmas
pub mod RequestsLemmas
pub mod SoundLemmas
pub mod MovesLemmas
mod BusyLemmas
pub mod EventsLemmas
mod HandsLemmas
mod DarkLemmas
mod LogLemmas
