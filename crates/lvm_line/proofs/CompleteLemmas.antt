pub mod Completing
pub mod Worked
