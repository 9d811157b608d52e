pub mod PairSectors
pub mod Examples
pub mod Changing
