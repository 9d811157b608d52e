pub mod Commit
pub mod Core
pub mod CoreRefusedCause
pub mod Session
pub mod SessionStart
