pub mod Runs
pub mod Ending
