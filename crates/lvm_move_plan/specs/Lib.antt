pub mod Standing
pub mod Planned
pub mod Laws
pub mod Worked
