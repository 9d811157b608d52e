pub mod Along
pub mod Linked
pub mod Places
