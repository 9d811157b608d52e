pub mod Num
pub mod Status
