pub mod Disk
pub mod Rec
