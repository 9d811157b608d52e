pub mod JoiningLemmas
pub mod OneByOneLemmas
pub mod JudgedLemmas
pub mod ExamplesLemmas
