pub mod Keeping
pub mod Untold
