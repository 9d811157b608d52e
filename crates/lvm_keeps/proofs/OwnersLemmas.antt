pub mod Rows
pub mod Launching
