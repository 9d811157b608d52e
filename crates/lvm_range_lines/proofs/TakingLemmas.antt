pub mod Takings
pub mod Awaiting
pub mod Landed
