pub mod Waiting
pub mod Ending
