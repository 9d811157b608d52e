pub mod Pbuf
pub mod Rec
pub mod Session
pub mod SessionOpenPower
