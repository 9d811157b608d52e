pub mod Worked
pub mod Writes
pub mod Reads
