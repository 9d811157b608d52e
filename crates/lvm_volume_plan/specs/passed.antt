pub mod Commit
pub mod Core
pub mod CoreFaultCommitFault
pub mod Session
pub mod Write
