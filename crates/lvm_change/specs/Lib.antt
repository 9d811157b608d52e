pub mod Parting
pub mod Rule
pub mod Spare
pub mod Transition
