pub mod Marking
pub mod Serving
pub mod Volumes
