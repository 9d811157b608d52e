pub mod Ending
pub mod Behind
