pub mod Moved
pub mod Worked
pub mod Taking
pub mod Restating
pub mod Tying
pub mod Going
