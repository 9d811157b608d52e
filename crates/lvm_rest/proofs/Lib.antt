pub mod MayLemmas
pub mod GoodLemmas
pub mod Rows
pub mod LastingLemmas
pub mod ClosedLemmas
pub mod CausesLemmas
pub mod ExamplesLemmas
