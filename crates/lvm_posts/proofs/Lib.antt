pub mod passed
pub mod DecidingLemmas
pub mod PostsLemmas
