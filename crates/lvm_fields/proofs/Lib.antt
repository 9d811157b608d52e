pub mod NumReadingLemmas
pub mod ReadingLemmas
