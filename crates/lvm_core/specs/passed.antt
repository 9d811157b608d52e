pub mod Commit
pub mod Kept
pub mod Quorum
pub mod Session
pub mod SessionOpenPower
pub mod SessionStart
pub mod Steps
pub mod Write
