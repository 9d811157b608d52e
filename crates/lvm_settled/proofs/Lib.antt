pub mod passed
pub mod SettledLemmas
pub mod ExamplesLemmas
