pub mod StreamLemmas
pub mod LinesLemmas
mod ReadingLemmas
