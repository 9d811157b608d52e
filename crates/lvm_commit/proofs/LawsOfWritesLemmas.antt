pub mod Writes
pub mod Holding
