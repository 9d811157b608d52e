pub mod passed
pub mod Reads
pub mod Writes
