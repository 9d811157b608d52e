pub mod Parts
pub mod Whole
pub mod Flying
pub mod BroughtUp
pub mod Worked
pub mod Waiting
pub mod Moved
pub mod Along
