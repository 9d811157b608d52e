pub mod Alike
pub mod Calm
pub mod Unmade
pub mod Unread
