pub mod Blank
pub mod Heeding
pub mod Program
pub mod Sim
pub mod Woven
pub mod Landing
pub mod Loaded
