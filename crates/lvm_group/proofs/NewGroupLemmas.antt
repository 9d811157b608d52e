pub mod Searches
pub mod Groups
