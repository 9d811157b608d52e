pub mod Update
pub mod Reviewed
pub mod StatusTies
