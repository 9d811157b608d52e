pub mod Commit
pub mod Core
