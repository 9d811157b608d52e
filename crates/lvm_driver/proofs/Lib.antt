pub mod passed
mod RoomsLemmas
mod FieldsLemmas
mod MovesLemmas
mod WorkedMoves
mod DrainsLemmas
mod AnswersLemmas
pub mod BeginningsLemmas
mod LogLemmas
mod CallsLemmas
mod CommitsLemmas
pub mod EndedLemmas
pub mod EpochLemmas
pub mod StandingLemmas
