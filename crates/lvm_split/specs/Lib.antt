pub mod Premises
pub mod Parting
pub mod Splitting
