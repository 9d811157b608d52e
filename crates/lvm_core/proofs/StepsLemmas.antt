pub mod Ends
pub mod Marking
pub mod Dirtying
