pub mod Requests
pub mod Getting
