pub mod Frame
pub mod Slot
