pub mod Ends
pub mod Finding
pub mod Images
pub mod Remaining
