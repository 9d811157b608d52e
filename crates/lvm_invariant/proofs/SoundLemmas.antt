pub mod Sound
pub mod StartFirst
pub mod Restage
pub mod Landing
pub mod Framing
pub mod Whole
