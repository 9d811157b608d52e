pub mod Seeing
pub mod Holding
