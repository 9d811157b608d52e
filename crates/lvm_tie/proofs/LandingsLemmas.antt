pub mod Causes
pub mod Calls
