pub mod Frames
pub mod Note
pub mod Slots
pub mod Homes
pub mod Latest
