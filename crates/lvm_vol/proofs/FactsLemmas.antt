pub mod Order
pub mod Counting
