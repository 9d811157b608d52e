pub mod Maps
pub mod Marks
pub mod Members
pub mod Spots
