pub mod passed
pub mod LinesLemmas
pub mod CausesLemmas
pub mod CompleteLemmas
