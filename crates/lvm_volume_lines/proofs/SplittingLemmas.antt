pub mod Giving
pub mod Doing
pub mod Sharing
