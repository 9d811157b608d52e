pub mod Cleaned
pub mod Moments
pub mod Quiet
pub mod Recovered
