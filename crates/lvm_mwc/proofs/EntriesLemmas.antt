pub mod Entries
pub mod Pins
