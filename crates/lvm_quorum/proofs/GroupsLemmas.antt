pub mod Epochs
pub mod Naming
