pub mod Choosing
pub mod Rebuilding
pub mod Worked
