pub mod Descriptors
pub mod Examples
pub mod Judged
pub mod Refusals
pub mod Steps
