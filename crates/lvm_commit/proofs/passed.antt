pub mod Steps
pub mod Transfer
pub mod Vgda
