pub mod Recover
pub mod Tidying
