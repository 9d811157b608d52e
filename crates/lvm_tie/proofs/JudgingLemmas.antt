pub mod Rows
pub mod Due
