pub mod Transfer
pub mod Vgda
pub mod Vgsa
