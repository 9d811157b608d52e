pub mod Masks
pub mod Writing
pub mod Reading
