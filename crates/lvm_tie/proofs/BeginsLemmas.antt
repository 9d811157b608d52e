pub mod Resting
pub mod Beginning
pub mod Rested
