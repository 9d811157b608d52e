pub mod Records
pub mod Notes
pub mod Quiet
