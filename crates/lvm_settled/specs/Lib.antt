pub mod passed
pub mod Settled
pub mod Examples
