pub mod Tables
pub mod Ending
