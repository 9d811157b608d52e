pub mod Hold
pub mod Num
