pub mod Volumes
pub mod Others
