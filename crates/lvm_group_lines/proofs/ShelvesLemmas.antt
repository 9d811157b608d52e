pub mod Cutting
pub mod Ordering
