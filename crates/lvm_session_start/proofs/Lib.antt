pub mod passed
pub mod EntriesLemmas
