pub mod Sectors
pub mod Landing
pub mod Ended
pub mod Well
pub mod Badly
pub mod NoteTies
