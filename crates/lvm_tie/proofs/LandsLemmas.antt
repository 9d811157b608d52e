pub mod TakeTies
pub mod LandTies
pub mod MarkedTies
pub mod GotTies
pub mod Landings
