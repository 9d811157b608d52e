pub mod Bounds
pub mod Partitions
pub mod Volumes
