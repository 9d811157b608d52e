pub mod passed
pub mod Lists
pub mod MembersLemmas
pub mod Rows
pub mod CommandsLemmas
pub mod MarkingLemmas
pub mod ExamplesLemmas
