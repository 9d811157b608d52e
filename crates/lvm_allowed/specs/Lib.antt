pub mod Fitting
pub mod Rows
pub mod Seen
pub mod Told
