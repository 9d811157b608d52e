pub mod Posting
pub mod Ending
