pub mod passed
pub mod Counts
pub mod Device
pub mod Steps
pub mod Paths
pub mod Images
