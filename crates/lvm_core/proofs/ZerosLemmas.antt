pub mod Zeroing
pub mod ZeroEnding
pub mod ZeroKeeping
