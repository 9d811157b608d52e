pub mod Writing
pub mod Disks
