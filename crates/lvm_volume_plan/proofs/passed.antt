pub mod Commit
pub mod Core
pub mod Write
