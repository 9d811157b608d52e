pub mod Making
pub mod Landing
pub mod Woven
