pub mod Voting
pub mod Chosen
