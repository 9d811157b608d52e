pub mod Lasting
pub mod Statuses
