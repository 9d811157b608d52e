pub mod Leaving
pub mod Staging
