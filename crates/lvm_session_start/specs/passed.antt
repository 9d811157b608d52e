pub mod Hold
pub mod Pbuf
