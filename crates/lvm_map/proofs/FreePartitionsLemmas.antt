pub mod Choices
pub mod Members
