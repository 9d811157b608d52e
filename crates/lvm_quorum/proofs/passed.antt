pub mod Disk
pub mod Kept
pub mod Rec
pub mod Transfer
pub mod Vgda
pub mod Vgsa
