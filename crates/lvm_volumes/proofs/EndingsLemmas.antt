pub mod Fresh
pub mod Holding
pub mod Zeroing
pub mod Notes
