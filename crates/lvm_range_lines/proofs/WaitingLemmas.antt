pub mod Behind
pub mod Waits
pub mod Resting
