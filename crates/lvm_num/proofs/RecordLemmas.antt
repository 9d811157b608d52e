pub mod Newest
pub mod Records
