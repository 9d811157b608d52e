pub mod MatchedLemmas
pub mod WordsLemmas
pub mod CommandLineLemmas
