pub mod Breaking
pub mod Zeros
pub mod Clearing
pub mod Entering
pub mod Removing
pub mod Naming
pub mod Unmarking
