pub mod Starting
pub mod Ending
