pub mod passed
pub mod Keeps
pub mod Falls
pub mod Begins
pub mod Faulted
pub mod Failing
pub mod Copies
pub mod Unread
