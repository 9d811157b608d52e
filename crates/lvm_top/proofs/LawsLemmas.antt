pub mod Lines
pub mod Scripts
pub mod Recovering
pub mod Endings
