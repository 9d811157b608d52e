pub mod Knowing
pub mod Legality
