pub mod Others
pub mod Waiting
