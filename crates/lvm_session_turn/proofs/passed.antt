pub mod Calls
pub mod Due
