pub mod GrammarLemmas
pub mod WithinLemmas
pub mod AnsweringLemmas
pub mod ForcedLemmas
pub mod ReadingLemmas
pub mod LineLemmas
mod WordsLemmas
pub mod OptionsLemmas
pub mod OptionsReadingLemmas
