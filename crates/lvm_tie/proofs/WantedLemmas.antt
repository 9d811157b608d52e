pub mod Behind
pub mod Reviewing
