pub mod Waiting
pub mod Keeping
pub mod Moved
pub mod Drained
pub mod Worked
pub mod Stuck
