pub mod Calls
pub mod Going
pub mod KeepsEvents
pub mod Write
