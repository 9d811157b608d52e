pub mod Scripting
pub mod Concluding
