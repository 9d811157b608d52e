pub mod Views
pub mod Passes
pub mod Rules
pub mod Calls
pub mod Steps
pub mod Seats
pub mod Turns
