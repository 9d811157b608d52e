pub mod JoiningLemmas
pub mod ExamplesLemmas
pub mod WritingLemmas
