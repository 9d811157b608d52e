pub mod Losing
pub mod Votes
