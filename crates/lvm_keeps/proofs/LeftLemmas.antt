pub mod Updates
pub mod Leaving
