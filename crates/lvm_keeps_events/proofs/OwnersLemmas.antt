pub mod Removal
pub mod Rows
