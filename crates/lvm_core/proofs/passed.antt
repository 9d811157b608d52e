pub mod Commit
pub mod Write
