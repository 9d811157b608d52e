pub mod Adding
pub mod Taking
pub mod Splitting
pub mod Sharing
