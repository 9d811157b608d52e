pub mod Grounds
pub mod Histories
