pub mod Reviewing
pub mod Requests
pub mod Turning
