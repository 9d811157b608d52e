pub mod Closing
pub mod Lines
