pub mod passed
pub mod Reducing
