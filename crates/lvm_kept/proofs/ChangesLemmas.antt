pub mod Blank
pub mod Changing
pub mod Entries
pub mod Restating
pub mod Restamping
