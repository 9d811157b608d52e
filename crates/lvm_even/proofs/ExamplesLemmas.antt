pub mod Slots
pub mod Pairs
pub mod Sectors
pub mod Examples
