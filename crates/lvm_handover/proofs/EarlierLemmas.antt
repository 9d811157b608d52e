pub mod Running
pub mod Resting
