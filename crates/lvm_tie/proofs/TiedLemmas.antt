pub mod Orderly
pub mod Tied
pub mod Recorded
pub mod Ends
