pub mod Listings
pub mod Counts
pub mod Texts
pub mod Blocks
pub mod Refusals
