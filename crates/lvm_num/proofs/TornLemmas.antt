pub mod Fresh
pub mod Needed
pub mod Torn
