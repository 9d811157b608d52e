pub mod Statuses
pub mod Resting
