pub mod Parts
pub mod Shelf
pub mod Seen
pub mod Worked
pub mod Waiting
pub mod Admitted
pub mod Writing
pub mod Updating
