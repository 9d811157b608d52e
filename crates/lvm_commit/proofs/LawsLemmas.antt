pub mod Found
pub mod Statuses
pub mod Shown
pub mod Committed
