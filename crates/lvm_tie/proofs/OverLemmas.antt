pub mod Waiting
pub mod Landings
pub mod ReadLandings
pub mod Off
pub mod Dark
pub mod Orders
pub mod Taking
